-- The calls of a remote that asked ahead, in the words of remotes.
use Rattle.std.proofs.Common.{◌≡◌, ◌≤◌, ◌⊎◌, inl, inr, ⊎_elim, ℕ, List, [], ◌∷◌, take, Option, None, Ok, Err, refl, sym, ap, subst, ◌∙◌, arith}
use Rattle.std.specs.Prelude.{IfOk, IfSome, IsErrOf}
use Rattle.std.specs.declared.result.Result.{Result}
use Rattle.id_groups.specs.Name.{Name}
use Rattle.remote_rules.specs.CloneData.{CloneData}
use Rattle.remote_rules.specs.Clones.{IsCloneOf}
use Rattle.remote_rules.specs.Known.{Path}
use Rattle.remote_rules.specs.Mirror.{Mirror}
use Rattle.remote_trait.specs.Calls.{Leaves, Refreshes, Fails, raised}
use Rattle.remote_trait.specs.Honest.{AreNamesOf, IsPathOf}
use Rattle.remote_trait.specs.Runs.{Run}
use Rattle.remote_trait.specs.declared.fault.RemoteFault.{RemoteFault}
use Rattle.remote_trait.specs.declared.fault.RemoteFault.TheVariants as remote
use Rattle.remote_serve.specs.Requests.{Request, ToRefresh, ToClone, ToNames, ToPath}
use Rattle.remote_serve.specs.Answers.{Answer, Refreshed, Cloned, Led}
use Rattle.remote_pipe.specs.Line.{PlainLine, CountsOne, Asks, served_by}
use Rattle.remote_pipe.specs.Remote.{mirror_by, AsksNames}
use Rattle.remote_pipe.specs.Ahead.{PassesTo, Passes, Awaits, IsWanted, TakesAhead, NamesAhead}
use Rattle.remote_pipe.proofs.Asking.{counts-so}
use Rattle.remote_pipe.proofs.Mirrors.{IsQuiet, same-left, stands-leaves}
use Rattle.remote_pipe.proofs.RemoteCalls.{left-refreshes, refresh-left, call-failed, clone-left, clone-told, clone-honest, path-left, path-honest, names-left, names-leaves, names-failed, names-honest, fails-so, master-served}
use Rattle.remote_pipe.proofs.Awaited.{IsStuck, awaits-nothing, nothing-awaits, passes-served, passes-awaits, passes-stuck, passes-counted, takes-served, takes-awaits, takes-right, same-stands}

-- ---- what was passed

-- it wasn't passed: the call fails, and no more is asked
pub record FailsTo (fault : RemoteFault) (before now : PlainLine) : Type 0 where
  pub served : served_by now.peer ≡ served_by before.peer
  pub later : before.faults ≤ now.faults
  pub counted : fault ≡ remote.Failed → CountsOne before now
  pub stuck : IsStuck now

-- it was passed, and what is told is as it was
pub record Behind (before mid : PlainLine) : Type 0 where
  pub served : served_by mid.peer ≡ served_by before.peer
  pub faults : mid.faults ≡ before.faults
  pub quiet : IsQuiet mid

abbrev pub Passed : {T : Type 0} → (PlainLine → PlainLine → Result T RemoteFault → Type 0) → PlainLine → List Run → PlainLine → Result T RemoteFault → Type 0
Passed P before later now result =
    ((mid : PlainLine) × Behind before mid × (later ≡ []) × P mid now result) ⊎ ((fault : RemoteFault) × (result ≡ Err fault) × FailsTo fault before now)

fails-so-far : (before mid now : PlainLine) (fault : RemoteFault) → served_by mid.peer ≡ served_by before.peer → mid.faults ≡ before.faults → FailsTo fault mid now → FailsTo fault before now
fails-so-far before mid now fault s e f = record {
  served = f.served ∙ s;
  later = let le = f.later in omega (arith, le, e);
  counted = λ g. counts-so before mid now e (f.counted g);
  stuck = f.stuck;
}

pub passed : {T : Type 0} (P : PlainLine → PlainLine → Result T RemoteFault → Type 0) (queue : List Run) (before : PlainLine) (later : List Run) (now : PlainLine) (result : Result T RemoteFault)
    → (before.stopped ≡ None → Awaits queue before.peer) → PassesTo P queue before later now result → Passed P before later now result
passed P [] before later now result awaits h = inl (before, record { served = refl; faults = refl; quiet = λ e. awaits-nothing before.peer (awaits e) }, h.0, h.1)
passed P (run ∷ more) before later now result awaits h =
    ⊎_elim (λ a. first a.0 a.1 (passed P more a.0 later now result (passes-awaits run more before a.0 awaits a.1) a.2))
    (λ b. inr (
      b.0,
      b.1,
      record {
        served = passes-served run before now (Err b.0) b.3;
        later = b.3.keeps.faults;
        counted = passes-counted run before now b.0 b.3;
        stuck = passes-stuck run before now b.0 b.3;
      },
    )) h
  where
    first : (mid : PlainLine) → Passes (let r : Request = ToNames run.from run.back run.count in r) before mid (Ok tt) → Passed P mid later now result → Passed P before later now result
    first mid p rest =
        let s = passes-served run before mid (Ok tt) p in
        let e = p.ends.2 in
        ⊎_elim (λ a. inl (a.0, record { served = a.1.served ∙ s; faults = a.1.faults ∙ e; quiet = a.1.quiet }, a.2, a.3)) (λ b. inr (b.0, b.1, fails-so-far before mid now b.0 s e b.2)) rest

-- ---- what becomes of a remote

-- where something is asked behind it, by what that leaves
pub quiet-so : {T : Type 0} (P : PlainLine → PlainLine → Result T RemoteFault → Type 0) (before : PlainLine) (later : List Run) (now : PlainLine) (result : Result T RemoteFault)
    → ((mid : PlainLine) → IsQuiet mid → P mid now result → IsQuiet now) → Passed P before later now result → now.stopped ≡ None → Awaits later now.peer
quiet-so P before later now result f p e =
    ⊎_elim (λ a. subst (λ (q : List Run). Awaits q now.peer) (sym a.2) (nothing-awaits now.peer (f a.0 a.1.quiet a.3 e))) (λ b. absurd (b.2.stuck e)) p

shown-same : (before mid : PlainLine) (a : ℕ) → served_by mid.peer ≡ served_by before.peer → mid.faults ≡ before.faults → mirror_by (served_by mid.peer) mid.faults a ≡ mirror_by (served_by before.peer) before.faults a
shown-same before mid a s e = ap (λ (m : Option Mirror). mirror_by m mid.faults a) s ∙ ap (λ (f : ℕ). mirror_by (served_by before.peer) f a) e

-- what holds of the mirror in front of what is asked holds of the one before
of-before : (Q : Mirror → Type 0) (before mid : PlainLine) (a : ℕ) → Behind before mid → Q (mirror_by (served_by mid.peer) mid.faults a) → Q (mirror_by (served_by before.peer) before.faults a)
of-before Q before mid a b h = subst Q (shown-same before mid a b.served b.faults) h

pub ahead-refreshes : (before : PlainLine) (later : List Run) (now : PlainLine) (a : ℕ) (result : Result Unit RemoteFault) → Passed (Asks ToRefresh (λ _. Refreshed)) before later now result
    → Refreshes (mirror_by (served_by before.peer) before.faults a) (mirror_by (served_by now.peer) now.faults a)
ahead-refreshes before later now a result p =
    ⊎_elim (λ h. of-before (λ m. Refreshes m (mirror_by (served_by now.peer) now.faults a)) before h.0 a h.1 (refresh-left h.0 now a a result h.3 refl))
    (λ h. left-refreshes (served_by before.peer) (served_by now.peer) before.faults now.faults a a (same-left ToRefresh (served_by before.peer) (served_by now.peer) h.2.served) h.2.later refl) p

leaves-same : (count : ℕ → ℕ) (before now : PlainLine) (fault : RemoteFault) (a a' : ℕ) → FailsTo fault before now → a' ≡ count a → a ≤ a'
    → Leaves count (mirror_by (served_by before.peer) before.faults a) (mirror_by (served_by now.peer) now.faults a')
leaves-same count before now fault a a' f e le =
    stands-leaves count (served_by before.peer) (served_by now.peer) before.faults now.faults a a' (same-stands (served_by before.peer) (served_by now.peer) f.served) f.later e le

failed-same : {T : Type 0} (before now : PlainLine) (fault : RemoteFault) (a a' : ℕ) (result : Result T RemoteFault) → FailsTo fault before now → result ≡ Err fault → IsErrOf result remote.Failed
    → Fails (mirror_by (served_by before.peer) before.faults a) (mirror_by (served_by now.peer) now.faults a')
failed-same before now fault a a' result f e h =
    fails-so (served_by before.peer) (served_by now.peer) before.faults now.faults a a' (f.counted cc)

none-ok : {T : Type 0} (Q : T → Type 0) (fault : RemoteFault) (result : Result T RemoteFault) → result ≡ Err fault → IfOk result Q
none-ok {T} Q fault result e = subst (λ (r : Result T RemoteFault). IfOk r Q) (sym e) tt

pub ahead-failed : {T : Type 0} (request : Request) (answer_of : T → Answer) (before : PlainLine) (later : List Run) (now : PlainLine) (a a' : ℕ) (result : Result T RemoteFault)
    → Passed (Asks request answer_of) before later now result → IsErrOf result remote.Failed → Fails (mirror_by (served_by before.peer) before.faults a) (mirror_by (served_by now.peer) now.faults a')
ahead-failed request answer_of before later now a a' result p e =
    ⊎_elim (λ h. of-before (λ m. Fails m (mirror_by (served_by now.peer) now.faults a')) before h.0 a h.1 (call-failed request answer_of h.0 now a a' result h.3 e))
    (λ h. failed-same before now h.0 a a' result h.2 h.1 e) p

pub ahead-clone-left : (before : PlainLine) (later : List Run) (now : PlainLine) (a : ℕ) (result : Result CloneData RemoteFault) → Passed (Asks ToClone (λ told. Cloned told)) before later now result
    → Leaves (λ asked. asked) (mirror_by (served_by before.peer) before.faults a) (mirror_by (served_by now.peer) now.faults a)
ahead-clone-left before later now a result p =
    ⊎_elim (λ h. of-before (λ m. Leaves (λ asked. asked) m (mirror_by (served_by now.peer) now.faults a)) before h.0 a h.1 (clone-left h.0 now a a result h.3 refl))
    (λ h. leaves-same (λ asked. asked) before now h.0 a a h.2 refl (omega arith)) p

pub ahead-clone-told : (before : PlainLine) (later : List Run) (now : PlainLine) (a : ℕ) (result : Result CloneData RemoteFault) → Passed (Asks ToClone (λ told. Cloned told)) before later now result
    → IfOk result (λ given. IfSome (mirror_by (served_by before.peer) before.faults a).cloned (λ told. given ≡ told))
ahead-clone-told before later now a result p =
    ⊎_elim (λ h. of-before (λ m. IfOk result (λ given. IfSome m.cloned (λ told. given ≡ told))) before h.0 a h.1 (clone-told h.0 now a result h.1.quiet h.3)) (λ h. none-ok _ h.0 result h.1) p

pub ahead-clone-honest : (before : PlainLine) (later : List Run) (now : PlainLine) (a : ℕ) (result : Result CloneData RemoteFault) → Passed (Asks ToClone (λ told. Cloned told)) before later now result
    → IfOk result (λ given. IfSome (mirror_by (served_by before.peer) before.faults a).master (λ rows. IsCloneOf rows given))
ahead-clone-honest before later now a result p =
    ⊎_elim (λ h. of-before (λ m. IfOk result (λ given. IfSome m.master (λ rows. IsCloneOf rows given))) before h.0 a h.1 (clone-honest h.0 now a result h.1.quiet h.3)) (λ h. none-ok _ h.0 result h.1) p

pub ahead-path-left : (heads : List Name) (name : Name) (before : PlainLine) (later : List Run) (now : PlainLine) (a a' : ℕ) (result : Result (Option Path) RemoteFault) → Passed (Asks (ToPath heads name) Led) before later now result
    → a' ≡ raised 1 a → a ≤ a' → Leaves (raised 1) (mirror_by (served_by before.peer) before.faults a) (mirror_by (served_by now.peer) now.faults a')
ahead-path-left heads name before later now a a' result p e le =
    ⊎_elim (λ h. of-before (λ m. Leaves (raised 1) m (mirror_by (served_by now.peer) now.faults a')) before h.0 a h.1 (path-left heads name h.0 now a a' result h.3 e le))
    (λ h. leaves-same (raised 1) before now h.0 a a' h.2 e le) p

pub ahead-path-honest : (heads : List Name) (name : Name) (before : PlainLine) (later : List Run) (now : PlainLine) (a : ℕ) (result : Result (Option Path) RemoteFault) → Passed (Asks (ToPath heads name) Led) before later now result
    → IfOk result (λ found. IfSome (mirror_by (served_by before.peer) before.faults a).master (λ rows. IsPathOf rows heads name found))
ahead-path-honest heads name before later now a result p =
    ⊎_elim (λ h. of-before (λ m. IfOk result (λ found. IfSome m.master (λ rows. IsPathOf rows heads name found))) before h.0 a h.1 (path-honest heads name h.0 now a result h.1.quiet h.3)) (λ h. none-ok _ h.0 result h.1) p

-- ---- names

-- names that were asked for behind what was passed
abbrev pub AskedNames : Name → ℕ → ℕ → List Name → PlainLine → PlainLine → Result ℕ RemoteFault → Type 0
AskedNames x back room out before now result = AsksNames x back room before now result out

-- names of what was asked ahead
abbrev pub TookNames : Name → ℕ → ℕ → List Run → PlainLine → List Run → PlainLine → Result ℕ RemoteFault → List Name → Type 0
TookNames x back room queue before later now result out = (run : Run) × (queue ≡ run ∷ later) × IsWanted x back room run × TakesAhead (ToNames x back room) out before now result

-- the one or the other
abbrev pub NamesSo : Name → ℕ → ℕ → List Run → PlainLine → List Run → PlainLine → Result ℕ RemoteFault → List Name → Type 0
NamesSo x back room queue before later now result out =
    TookNames x back room queue before later now result out ⊎ Passed (AskedNames x back room out) before later now result

pub names-so : (x : Name) (back room : ℕ) (queue : List Run) (before : PlainLine) (later : List Run) (now : PlainLine) (result : Result ℕ RemoteFault) (out : List Name)
    → (before.stopped ≡ None → Awaits queue before.peer) → NamesAhead x back room queue before later now result out → NamesSo x back room queue before later now result out
names-so x back room queue before later now result out awaits h =
    ⊎_elim (λ a. inl a) (λ b. inr (passed (AskedNames x back room out) queue before later now result awaits b.1)) h

-- what is awaited before one that is taken
took-before : (x : Name) (back room : ℕ) (queue : List Run) (before : PlainLine) (later : List Run) (run : Run) → queue ≡ run ∷ later → IsWanted x back room run
    → (before.stopped ≡ None → Awaits queue before.peer) → before.stopped ≡ None → Awaits (record { from = x; back = back; count = room } ∷ later) before.peer
took-before x back room queue before later run e w awaits =
    subst (λ (r : Run). before.stopped ≡ None → Awaits (r ∷ later) before.peer) w.1 (subst (λ (q : List Run). before.stopped ≡ None → Awaits q before.peer) e awaits)

pub ahead-names-quiet : (x : Name) (back room : ℕ) (queue : List Run) (before : PlainLine) (later : List Run) (now : PlainLine) (result : Result ℕ RemoteFault) (out : List Name)
    → (before.stopped ≡ None → Awaits queue before.peer) → NamesSo x back room queue before later now result out → now.stopped ≡ None → Awaits later now.peer
ahead-names-quiet x back room queue before later now result out awaits h =
    ⊎_elim (λ t. takes-awaits (record { from = x; back = back; count = room }) later out before now result (took-before x back room queue before later t.0 t.1 t.2 awaits) t.3)
    (λ p. quiet-so (AskedNames x back room out) before later now result (λ mid q a. (names-left x back room mid now result out q a).quiet) p) h

pub ahead-names-leaves : (x : Name) (back room : ℕ) (queue : List Run) (before : PlainLine) (later : List Run) (now : PlainLine) (a a' : ℕ) (result : Result ℕ RemoteFault) (out : List Name)
    → NamesSo x back room queue before later now result out → a' ≡ raised room a → a ≤ a' → Leaves (raised room) (mirror_by (served_by before.peer) before.faults a) (mirror_by (served_by now.peer) now.faults a')
ahead-names-leaves x back room queue before later now a a' result out h e le =
    ⊎_elim (λ t. stands-leaves (raised room) (served_by before.peer) (served_by now.peer) before.faults now.faults a a'
    (same-stands (served_by before.peer) (served_by now.peer) (takes-served (record { from = x; back = back; count = room }) out before now result t.3)) t.3.keeps.faults e le)
    (λ p. ⊎_elim (λ k. of-before (λ m. Leaves (raised room) m (mirror_by (served_by now.peer) now.faults a')) before k.0 a k.1 (names-leaves x back room k.0 now a a' result out k.1.quiet k.3 e le))
    (λ k. leaves-same (raised room) before now k.0 a a' k.2 e le) p) h

takes-counted : (x : Name) (back room : ℕ) (out : List Name) (before now : PlainLine) (result : Result ℕ RemoteFault) → TakesAhead (ToNames x back room) out before now result → IsErrOf result remote.Failed → CountsOne before now
takes-counted x back room out before now (Ok n) t e = absurd cc
takes-counted x back room out before now (Err remote.Failed) t e = t.ends.0
takes-counted x back room out before now (Err remote.Memory) t e = absurd cc

pub ahead-names-failed : (x : Name) (back room : ℕ) (queue : List Run) (before : PlainLine) (later : List Run) (now : PlainLine) (a a' : ℕ) (result : Result ℕ RemoteFault) (out : List Name)
    → NamesSo x back room queue before later now result out → IsErrOf result remote.Failed → Fails (mirror_by (served_by before.peer) before.faults a) (mirror_by (served_by now.peer) now.faults a')
ahead-names-failed x back room queue before later now a a' result out h e =
    ⊎_elim (λ t. fails-so (served_by before.peer) (served_by now.peer) before.faults now.faults a a' (takes-counted x back room out before now result t.3 e))
    (λ p. ⊎_elim (λ k. of-before (λ m. Fails m (mirror_by (served_by now.peer) now.faults a')) before k.0 a k.1 (names-failed x back room k.0 now a a' result out k.1.quiet k.3 e))
    (λ k. failed-same before now k.0 a a' result k.2 k.1 e) p) h

took-honest : (x : Name) (back room : ℕ) (later : List Run) (before now : PlainLine) (a : ℕ) (result : Result ℕ RemoteFault) (out : List Name)
    → (before.stopped ≡ None → Awaits (record { from = x; back = back; count = room } ∷ later) before.peer) → TakesAhead (ToNames x back room) out before now result
    → IfOk result (λ n. IfSome (mirror_by (served_by before.peer) before.faults a).master (λ rows. AreNamesOf rows x back room (take n out)))
took-honest x back room later before now a (Ok n) out awaits t =
    master-served (λ rows. AreNamesOf rows x back room (take n out)) (served_by before.peer) before.faults a
    (λ m e. takes-right (record { from = x; back = back; count = room }) later out n before now m awaits t e)
took-honest x back room later before now a (Err fault) out awaits t = tt

pub ahead-names-honest : (x : Name) (back room : ℕ) (queue : List Run) (before : PlainLine) (later : List Run) (now : PlainLine) (a : ℕ) (result : Result ℕ RemoteFault) (out : List Name)
    → (before.stopped ≡ None → Awaits queue before.peer) → NamesSo x back room queue before later now result out
    → IfOk result (λ n. IfSome (mirror_by (served_by before.peer) before.faults a).master (λ rows. AreNamesOf rows x back room (take n out)))
ahead-names-honest x back room queue before later now a result out awaits h =
    ⊎_elim (λ t. took-honest x back room later before now a result out (took-before x back room queue before later t.0 t.1 t.2 awaits) t.3)
    (λ p. ⊎_elim (λ k. of-before (λ m. IfOk result (λ n. IfSome m.master (λ rows. AreNamesOf rows x back room (take n out)))) before k.0 a k.1 (names-honest x back room k.0 now a result out k.1.quiet k.3))
    (λ k. none-ok _ k.0 result k.1) p) h
