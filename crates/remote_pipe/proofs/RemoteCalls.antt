-- The calls of a remote over a line, in the words of remotes.
use Rattle.std.proofs.Common.{◌≡◌, ◌≤◌, ◌<◌, ◌+◌, ◌-◌, ◌⊎◌, inl, inr, ⊎_elim, ℕ, zero, suc, min, Bool, true, false, ltb, List, [], ◌∷◌, ◌++◌, length, take, slice_get, Option, Some, None, Ok, Err, refl, sym, ap, subst, ◌∙◌, arith, append-nil, length-append}
use Rattle.std.specs.Prelude.{IfOk, IfSome, IsErrOf}
use Rattle.std.specs.declared.result.Result.{Result}
use Rattle.std.proofs.lemmas.Bool.{ltb-true, ltb-false}
use Rattle.std.proofs.lemmas.List.Concat.{flat_map-cons}
use Rattle.outside.specs.Counts.{last_count}
use Rattle.id_groups.specs.Lists.{IsIn}
use Rattle.id_groups.specs.Name.{Name}
use Rattle.commit_graph.specs.World.{Row, names_of}
use Rattle.commit_graph.specs.Graph.{Graph, first_ancestor}
use Rattle.remote_rules.specs.CloneData.{CloneData}
use Rattle.remote_rules.specs.Clones.{IsCloneOf}
use Rattle.remote_rules.specs.Known.{Path}
use Rattle.remote_rules.specs.Mirror.{Mirror}
use Rattle.remote_trait.specs.Calls.{Leaves, Refreshes, Fails, ToldSo, AreGrown, raised}
use Rattle.remote_trait.specs.Honest.{AreNamesOf, IsPathOf, rows_graph}
use Rattle.remote_trait.specs.declared.fault.RemoteFault.{RemoteFault}
use Rattle.remote_trait.specs.declared.fault.RemoteFault.TheVariants as remote
use Rattle.remote_serve.specs.Requests.{Request, ToRefresh, ToClone, ToNames, ToPath, most_names}
use Rattle.remote_serve.specs.Answers.{Answer, Refreshed, Cloned, Named, Led}
use Rattle.remote_pipe.specs.Line.{PlainLine, CountsOne, Asks, served_by}
use Rattle.remote_pipe.specs.Remote.{mirror_by, AsksBlocks, AsksNames, LastNames, block_of}
use Rattle.remote_pipe.proofs.Blocks.{joined}
use Rattle.remote_pipe.proofs.Mirrors.{Left, IsQuiet, Stands, asks-left, asks-quiet, asks-allowed, clone-stands, names-stands, path-stands, stands-self, stands-then, stands-leaves}

-- ---- a refresh

grown-self : (rows : Option (List (Row Name))) → ToldSo rows rows AreGrown
grown-self None = tt
grown-self (Some rows) = record { more = []; behind = sym (append-nil rows); master = λ h. h }

refreshes-by : (m n : Mirror) (f f' a a' : ℕ) → ((n ≡ m) ⊎ Refreshes m n) → f ≤ f' → a' ≡ a → Refreshes (mirror_by (Some m) f a) (mirror_by (Some n) f' a')
refreshes-by m n f f' a a' (inl e) le same = subst (λ (k : Mirror). Refreshes (mirror_by (Some m) f a) (mirror_by (Some k) f' a')) (sym e) (record {
  master = grown-self m.master;
  kept = λ _. refl;
  cloned = refl;
  settled = refl;
  to_come = tt;
  faults = le;
  asked = same;
  sound = λ h. h;
})
refreshes-by m n f f' a a' (inr r) le same = record { master = r.master; kept = r.kept; cloned = r.cloned; settled = r.settled; to_come = tt; faults = le; asked = same; sound = r.sound }

pub left-refreshes : (m n : Option Mirror) (f f' a a' : ℕ) → Left ToRefresh m n → f ≤ f' → a' ≡ a → Refreshes (mirror_by m f a) (mirror_by n f' a')
left-refreshes None None f f' a a' l le same = record { master = tt; kept = λ _. refl; cloned = refl; settled = refl; to_come = tt; faults = le; asked = same; sound = λ h. h }
left-refreshes None (Some n) f f' a a' l le same = absurd l
left-refreshes (Some m) None f f' a a' l le same = absurd l
left-refreshes (Some m) (Some n) f f' a a' l le same = refreshes-by m n f f' a a' l le same

-- ---- failures

-- where a call failed its failure was counted
counted : {T : Type 0} (request : Request) (answer_of : T → Answer) (before now : PlainLine) (result : Result T RemoteFault) → Asks request answer_of before now result → IsErrOf result remote.Failed → CountsOne before now
counted request answer_of before now (Ok value) a e = absurd cc
counted request answer_of before now (Err remote.Failed) a e = a.ends.0
counted request answer_of before now (Err remote.Memory) a e = absurd cc

to-come-by : (m n : Option Mirror) (f f' a a' : ℕ) → ToldSo (mirror_by m f a).to_come (mirror_by n f' a').to_come (λ x y. y < x)
to-come-by None None f f' a a' = tt
to-come-by None (Some n) f f' a a' = tt
to-come-by (Some m) None f f' a a' = tt
to-come-by (Some m) (Some n) f f' a a' = tt

faults-by : (m : Option Mirror) (f a : ℕ) → (mirror_by m f a).faults ≡ f
faults-by None f a = refl
faults-by (Some m) f a = refl

pub fails-so : (m n : Option Mirror) (f f' a a' : ℕ) → f' ≡ min (f + 1) last_count → Fails (mirror_by m f a) (mirror_by n f' a')
fails-so m n f f' a a' e = record {
  faults = let p = faults-by m f a in let q = faults-by n f' a' in omega (arith, p, q, e);
  to_come = to-come-by m n f f' a a';
}

-- ---- one request

pub refresh-left : (before now : PlainLine) (a a' : ℕ) (result : Result Unit RemoteFault) → Asks ToRefresh (λ _. Refreshed) before now result → a' ≡ a
    → Refreshes (mirror_by (served_by before.peer) before.faults a) (mirror_by (served_by now.peer) now.faults a')
refresh-left before now a a' result h e =
    left-refreshes (served_by before.peer) (served_by now.peer) before.faults now.faults a a' (asks-left ToRefresh (λ _. Refreshed) before now result h) h.keeps.faults e

pub call-failed : {T : Type 0} (request : Request) (answer_of : T → Answer) (before now : PlainLine) (a a' : ℕ) (result : Result T RemoteFault) → Asks request answer_of before now result → IsErrOf result remote.Failed
    → Fails (mirror_by (served_by before.peer) before.faults a) (mirror_by (served_by now.peer) now.faults a')
call-failed request answer_of before now a a' result h e = fails-so (served_by before.peer) (served_by now.peer) before.faults now.faults a a' (counted request answer_of before now result h e)

pub clone-left : (before now : PlainLine) (a a' : ℕ) (result : Result CloneData RemoteFault) → Asks ToClone (λ told. Cloned told) before now result → a' ≡ a
    → Leaves (λ asked. asked) (mirror_by (served_by before.peer) before.faults a) (mirror_by (served_by now.peer) now.faults a')
clone-left before now a a' result h e =
    stands-leaves (λ asked. asked) (served_by before.peer) (served_by now.peer) before.faults now.faults a a'
    (clone-stands (served_by before.peer) (served_by now.peer) (asks-left ToClone (λ told. Cloned told) before now result h)) h.keeps.faults e (omega (arith, e))

pub path-left : (heads : List Name) (name : Name) (before now : PlainLine) (a a' : ℕ) (result : Result (Option Path) RemoteFault) → Asks (ToPath heads name) Led before now result → a' ≡ raised 1 a → a ≤ a'
    → Leaves (raised 1) (mirror_by (served_by before.peer) before.faults a) (mirror_by (served_by now.peer) now.faults a')
path-left heads name before now a a' result h e le =
    stands-leaves (raised 1) (served_by before.peer) (served_by now.peer) before.faults now.faults a a'
    (path-stands heads name (served_by before.peer) (served_by now.peer) (asks-left (ToPath heads name) Led before now result h)) h.keeps.faults e le

-- what holds of the mirror that is served holds of what is told
pub master-served : (P : List (Row Name) → Type 0) (m : Option Mirror) (f a : ℕ) → ((k : Mirror) → m ≡ Some k → IfSome k.master P) → IfSome (mirror_by m f a).master P
master-served P None f a h = tt
master-served P (Some k) f a h = h k refl

cloned-served : (P : CloneData → Type 0) (m : Option Mirror) (f a : ℕ) → ((k : Mirror) → m ≡ Some k → IfSome k.cloned P) → IfSome (mirror_by m f a).cloned P
cloned-served P None f a h = tt
cloned-served P (Some k) f a h = h k refl

pub clone-told : (before now : PlainLine) (a : ℕ) (result : Result CloneData RemoteFault) → IsQuiet before → Asks ToClone (λ told. Cloned told) before now result
    → IfOk result (λ given. IfSome (mirror_by (served_by before.peer) before.faults a).cloned (λ told. given ≡ told))
clone-told before now a (Ok given) quiet h =
    cloned-served (λ told. given ≡ told) (served_by before.peer) before.faults a (λ k e. (asks-allowed ToClone (λ told. Cloned told) before now given k quiet h e).3.0.0)
clone-told before now a (Err fault) quiet h = tt

pub clone-honest : (before now : PlainLine) (a : ℕ) (result : Result CloneData RemoteFault) → IsQuiet before → Asks ToClone (λ told. Cloned told) before now result
    → IfOk result (λ given. IfSome (mirror_by (served_by before.peer) before.faults a).master (λ rows. IsCloneOf rows given))
clone-honest before now a (Ok given) quiet h =
    master-served (λ rows. IsCloneOf rows given) (served_by before.peer) before.faults a (λ k e. (asks-allowed ToClone (λ told. Cloned told) before now given k quiet h e).3.0.1)
clone-honest before now a (Err fault) quiet h = tt

pub path-honest : (heads : List Name) (name : Name) (before now : PlainLine) (a : ℕ) (result : Result (Option Path) RemoteFault) → IsQuiet before → Asks (ToPath heads name) Led before now result
    → IfOk result (λ found. IfSome (mirror_by (served_by before.peer) before.faults a).master (λ rows. IsPathOf rows heads name found))
path-honest heads name before now a (Ok found) quiet h =
    master-served (λ rows. IsPathOf rows heads name found) (served_by before.peer) before.faults a (λ k e. (asks-allowed (ToPath heads name) Led before now found k quiet h e).3.0)
path-honest heads name before now a (Err fault) quiet h = tt

-- ---- names in blocks

-- a part of the names that first parents lead to
pub record ArePart (g : Graph Name) (names : List Name) (x : Name) (back : ℕ) (got : List Name) : Type 0 where
  pub each : (k : ℕ) → k < length got → first_ancestor g (back + k) x ≡ slice_get got k
  pub there : 0 < length got → IsIn x names

abbrev PartOf : List (Row Name) → Name → ℕ → List Name → Type 0
PartOf rows x back got = ArePart (rows_graph rows) (names_of rows) x back got

part-of : (rows : List (Row Name)) (x : Name) (back room : ℕ) (got : List Name) → AreNamesOf rows x back room got → PartOf rows x back got
part-of rows x back room got h = record { each = h.each; there = h.there }

get-front : (a b : List Name) (k : ℕ) → k < length a → slice_get (a ++ b) k ≡ slice_get a k
get-front [] b k lt = absurd (omega (arith, lt))
get-front (y ∷ a) b zero lt = refl
get-front (y ∷ a) b (suc k) lt = get-front a b k (omega (arith, lt))

get-behind : (a b : List Name) (k j : ℕ) → j ≡ length a + k → slice_get (a ++ b) j ≡ slice_get b k
get-behind [] b k j e = ap (λ (i : ℕ). slice_get b i) (let z : j ≡ k = omega (arith, e) in z)
get-behind (y ∷ a) b k zero e = absurd (omega (arith, e))
get-behind (y ∷ a) b k (suc j) e = get-behind a b k j (omega (arith, e))

part-none : (g : Graph Name) (names : List Name) (x : Name) (back : ℕ) → ArePart g names x back []
part-none g names x back = record { each = λ k lt. absurd (omega (arith, lt)); there = λ lt. absurd (omega (arith, lt)) }

part-join : (g : Graph Name) (names : List Name) (x : Name) (back : ℕ) (a b : List Name) → ArePart g names x back a → ArePart g names x (back + length a) b → ArePart g names x back (a ++ b)
part-join g names x back a b p q = record {
  each = λ k lt. one k lt (ltb k (length a)) refl;
  there = λ lt. somewhere lt (ltb 0 (length a)) refl;
}
  where
    size : length (a ++ b) ≡ length a + length b
    size = length-append a b

    one : (k : ℕ) → k < length (a ++ b) → (t : Bool) → ltb k (length a) ≡ t → first_ancestor g (back + k) x ≡ slice_get (a ++ b) k
    one k lt true t = let less = ltb-true k (length a) t in p.each k less ∙ sym (get-front a b k less)
    one k lt false t =
        let least = ltb-false k (length a) t in
        let j = k - length a in
        let place : back + length a + j ≡ back + k = omega (arith, least) in
        ap (λ (i : ℕ). first_ancestor g i x) (sym place) ∙ q.each j (omega (arith, least, lt, size)) ∙ sym (get-behind a b j k (omega (arith, least)))

    somewhere : 0 < length (a ++ b) → (t : Bool) → ltb 0 (length a) ≡ t → IsIn x names
    somewhere lt true t = p.there (ltb-true 0 (length a) t)
    somewhere lt false t = let least = ltb-false 0 (length a) t in q.there (omega (arith, lt, least, size))

names-whole : (rows : List (Row Name)) (x : Name) (back room wanted : ℕ) (done names : List Name) → wanted ≡ room - length done → PartOf rows x back done
    → AreNamesOf rows x (back + length done) (block_of wanted) names → ((length names ≡ wanted) ⊎ (length names < block_of wanted)) → AreNamesOf rows x back room (done ++ names)
names-whole rows x back room wanted done names e p h either =
    let both = part-join (rows_graph rows) (names_of rows) x back done names p (part-of rows x (back + length done) (block_of wanted) names h) in
    let size = length-append done names in
    let place : back + length done + length names ≡ back + length (done ++ names) = omega (arith, size) in
    record {
      each = both.each;
      there = both.there;
      all = λ less there. ap (λ (i : ℕ). first_ancestor (rows_graph rows) i x) (sym place)
          ∙ h.all (⊎_elim (λ full. absurd (omega (arith, full, less, size, e))) (λ short. short) either) there;
    }

-- the mirror that is served tells these rows
abbrev pub HasRows : List (Row Name) → PlainLine → Type 0
HasRows rows line = (m : Mirror) × (served_by line.peer ≡ Some m) × (m.master ≡ Some rows)

block-step : (rows : List (Row Name)) (x : Name) (back count : ℕ) (names : List Name) (before now : PlainLine) → HasRows rows before → IsQuiet before
    → Asks {T = List Name} (ToNames x back count) Named before now (Ok names) → AreNamesOf rows x back count names × HasRows rows now
block-step rows x back count names before now has quiet a =
    let s = asks-allowed {T = List Name} (ToNames x back count) Named before now names has.0 quiet a has.1 in
    (subst (λ (o : Option (List (Row Name))). IfSome o (λ rows. AreNamesOf rows x back count names)) has.2 s.3.0.1, (s.0, s.1, s.2.master ∙ has.2))

blocks-part : (rows : List (Row Name)) (x : Name) (back : ℕ) (blocks : List (List Name)) (before now : PlainLine) → HasRows rows before → IsQuiet before → AsksBlocks x back blocks before now
    → PartOf rows x back (joined blocks) × HasRows rows now
blocks-part rows x back [] before now has quiet same = (part-none (rows_graph rows) (names_of rows) x back, subst (λ (l : PlainLine). HasRows rows l) (sym same) has)
blocks-part rows x back (block ∷ blocks) before now has quiet h =
    let s = block-step rows x back most_names block before h.1 has quiet h.2 in
    let r = blocks-part rows x (back + most_names) blocks h.1 now s.1 (asks-quiet {T = List Name} (ToNames x back most_names) Named before h.1 (Ok block) quiet h.2) h.3 in
    let first = part-of rows x back most_names block s.0 in
    let next = subst (λ (n : ℕ). PartOf rows x (back + n) (joined blocks)) (sym h.0) r.0 in
    (subst (λ (l : List Name). PartOf rows x back l) (sym (flat_map-cons (λ (names : List Name). names) block blocks)) (part-join (rows_graph rows) (names_of rows) x back block (joined blocks) first next), r.1)

-- what full blocks leave
pub record Gone (before now : PlainLine) : Type 0 where
  pub stands : Stands (served_by before.peer) (served_by now.peer)
  pub quiet : IsQuiet now
  pub same : now.faults ≡ before.faults

gone-asked : (x : Name) (back count : ℕ) (names : List Name) (before now : PlainLine) → IsQuiet before → Asks {T = List Name} (ToNames x back count) Named before now (Ok names) → Gone before now
gone-asked x back count names before now quiet a = record {
  stands = names-stands x back count (served_by before.peer) (served_by now.peer) (asks-left {T = List Name} (ToNames x back count) Named before now (Ok names) a);
  quiet = asks-quiet {T = List Name} (ToNames x back count) Named before now (Ok names) quiet a;
  same = a.ends.2;
}

gone-then : (a b c : PlainLine) → Gone a b → Gone b c → Gone a c
gone-then a b c p q = record { stands = stands-then (served_by a.peer) (served_by b.peer) (served_by c.peer) p.stands q.stands; quiet = q.quiet; same = q.same ∙ p.same }

blocks-gone : (x : Name) (back : ℕ) (blocks : List (List Name)) (before now : PlainLine) → IsQuiet before → AsksBlocks x back blocks before now → Gone before now
blocks-gone x back [] before now quiet same = subst (λ (l : PlainLine). Gone before l) (sym same) (record { stands = stands-self (served_by before.peer); quiet = quiet; same = refl })
blocks-gone x back (block ∷ blocks) before now quiet h =
    let first = gone-asked x back most_names block before h.1 quiet h.2 in
    gone-then before h.1 now first (blocks-gone x (back + most_names) blocks h.1 now first.quiet h.3)

last-gone : (x : Name) (back wanted : ℕ) (names : List Name) (before now : PlainLine) → IsQuiet before → LastNames x back wanted names before now → Gone before now
last-gone x back wanted names before now quiet h =
    ⊎_elim (λ a. subst (λ (l : PlainLine). Gone before l) (sym a.2) (record { stands = stands-self (served_by before.peer); quiet = quiet; same = refl }))
    (λ a. gone-asked x back (block_of wanted) names before now quiet a.1) h

-- what a call for names leaves
pub record NamesLeft (before now : PlainLine) : Type 0 where
  pub stands : Stands (served_by before.peer) (served_by now.peer)
  pub quiet : IsQuiet now
  pub later : before.faults ≤ now.faults

pub names-left : (x : Name) (back room : ℕ) (before now : PlainLine) (result : Result ℕ RemoteFault) (out : List Name) → IsQuiet before → AsksNames x back room before now result out → NamesLeft before now
names-left x back room before now (Ok n) out quiet h =
    let g = blocks-gone x back h.0 before h.1 quiet h.2 in
    let l = last-gone x (back + length (joined h.0)) (room - length (joined h.0)) h.3.0 h.1 now g.quiet h.3.3 in
    let a = g.same in
    let b = l.same in
    record { stands = stands-then (served_by before.peer) (served_by h.1.peer) (served_by now.peer) g.stands l.stands; quiet = l.quiet; later = omega (arith, a, b) }
names-left x back room before now (Err fault) out quiet h =
    let g = blocks-gone x back h.0 before h.1 quiet h.2 in
    let request = ToNames x (back + length (joined h.0)) (block_of (room - length (joined h.0))) in
    let a = h.3.1 in
    let same = g.same in
    let le = a.keeps.faults in
    record {
      stands = stands-then (served_by before.peer) (served_by h.1.peer) (served_by now.peer) g.stands
          (names-stands x (back + length (joined h.0)) (block_of (room - length (joined h.0))) (served_by h.1.peer) (served_by now.peer) (asks-left {T = List Name} request Named h.1 now (Err fault) a));
      quiet = asks-quiet {T = List Name} request Named h.1 now (Err fault) g.quiet a;
      later = omega (arith, same, le);
    }

pub names-leaves : (x : Name) (back room : ℕ) (before now : PlainLine) (a a' : ℕ) (result : Result ℕ RemoteFault) (out : List Name) → IsQuiet before → AsksNames x back room before now result out → a' ≡ raised room a → a ≤ a'
    → Leaves (raised room) (mirror_by (served_by before.peer) before.faults a) (mirror_by (served_by now.peer) now.faults a')
names-leaves x back room before now a a' result out quiet h e le =
    let l = names-left x back room before now result out quiet h in
    stands-leaves (raised room) (served_by before.peer) (served_by now.peer) before.faults now.faults a a' l.stands l.later e le

pub names-failed : (x : Name) (back room : ℕ) (before now : PlainLine) (a a' : ℕ) (result : Result ℕ RemoteFault) (out : List Name) → IsQuiet before → AsksNames x back room before now result out → IsErrOf result remote.Failed
    → Fails (mirror_by (served_by before.peer) before.faults a) (mirror_by (served_by now.peer) now.faults a')
names-failed x back room before now a a' (Ok n) out quiet h e = absurd cc
names-failed x back room before now a a' (Err remote.Failed) out quiet h e =
    let g = blocks-gone x back h.0 before h.1 quiet h.2 in
    let one = h.3.1.ends.0 in
    fails-so (served_by before.peer) (served_by now.peer) before.faults now.faults a a' (one ∙ ap (λ (n : ℕ). min (n + 1) last_count) g.same)
names-failed x back room before now a a' (Err remote.Memory) out quiet h e = absurd cc

names-right : (rows : List (Row Name)) (x : Name) (back room n : ℕ) (before now : PlainLine) (out : List Name) → HasRows rows before → IsQuiet before → AsksNames x back room before now (Ok n) out → AreNamesOf rows x back room (take n out)
names-right rows x back room n before now out has quiet h =
    let done = joined h.0 in
    let g = blocks-gone x back h.0 before h.1 quiet h.2 in
    let p = blocks-part rows x back h.0 before h.1 has quiet h.2 in
    let names = h.3.0 in
    subst (λ (l : List Name). AreNamesOf rows x back room l) (sym h.3.2) (⊎_elim
    (λ a. (let none = a.0 in let empty = ap (length {A = Name}) a.1 in let size = length-append done names in record {
      each = subst (λ (l : List Name). (k : ℕ) → k < length (done ++ l) → first_ancestor (rows_graph rows) (back + k) x ≡ slice_get (done ++ l) k) (sym a.1)
          (subst (λ (l : List Name). (k : ℕ) → k < length l → first_ancestor (rows_graph rows) (back + k) x ≡ slice_get l k) (sym (append-nil done)) p.0.each);
      there = λ lt. p.0.there (omega (arith, lt, size, empty));
      all = λ less there. absurd (omega (arith, less, none, size, empty));
    }))
    (λ a. names-whole rows x back room (room - length done) done names refl p.0 (block-step rows x (back + length done) (block_of (room - length done)) names h.1 now p.1 g.quiet a.1).0 a.2)
    h.3.3)

pub names-honest : (x : Name) (back room : ℕ) (before now : PlainLine) (a : ℕ) (result : Result ℕ RemoteFault) (out : List Name) → IsQuiet before → AsksNames x back room before now result out
    → IfOk result (λ n. IfSome (mirror_by (served_by before.peer) before.faults a).master (λ rows. AreNamesOf rows x back room (take n out)))
names-honest x back room before now a (Err fault) out quiet h = tt
names-honest x back room before now a (Ok n) out quiet h =
    master-served (λ rows. AreNamesOf rows x back room (take n out)) (served_by before.peer) before.faults a (λ k e. by k e k.master refl)
  where
    by : (k : Mirror) → served_by before.peer ≡ Some k → (o : Option (List (Row Name))) → k.master ≡ o → IfSome o (λ rows. AreNamesOf rows x back room (take n out))
    by k e None f = tt
    by k e (Some rows) f = names-right rows x back room n before now out (k, e, f) quiet h
