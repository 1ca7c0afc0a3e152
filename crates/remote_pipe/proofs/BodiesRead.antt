-- What a body is, by its first byte.
use Rattle.std.proofs.Common.{◌≡◌, ℕ, zero, suc, ◌+◌, ◌*◌, ◌≤◌, ◌⊎◌, inl, inr, ⊎_elim, List, [], ◌∷◌, length, take, drop, Option, Some, None, Ok, Err, Bool, true, false, refl, sym, ap, subst, ◌∙◌, arith, length-drop, length-take, ltb, cond}
use Rattle.std.specs.Prelude.{MatchOption, IfSome, IfNone}
use Rattle.std.specs.Option.{option_map}
use Rattle.std.specs.declared.result.Result.{Result}
use Rattle.std.specs.Int.{w32}
use Rattle.std.proofs.lemmas.Bool.{ltb-false, le-ltb}
use Rattle.std.proofs.lemmas.List.{nil_from_length}
use Rattle.id_groups.specs.Name.{Name}
use Rattle.segment_codec.specs.Reading.{◌>>=◌}
use Rattle.segment_codec.proofs.Numbers.{IsBytes, bind_some, some_is}
use Rattle.batch_codec.specs.Reading.{fixed_at, piece_at, names_read}
use Rattle.remote_rules.specs.CloneData.{CloneData}
use Rattle.remote_rules.specs.Known.{Path}
use Rattle.remote_serve.specs.Requests.{Request, ToRefresh, ToClone, ToNames, ToPath}
use Rattle.remote_serve.specs.Answers.{Answer, Refreshed, Cloned, Named, Led, HasFailed, IsTooLong, IsNoRequest, HasNoMemory, answer_bytes}
use Rattle.remote_pipe.specs.Answering.{Fits, IsRefusal}
use Rattle.remote_pipe.specs.Reading.{only, items_at, counted_at, told_at, names_told_at, way_at, answer_at}
use Rattle.remote_pipe.specs.Steps.{Reads, ReadsAs, ReadsNames, ReadsPath}
use Rattle.remote_pipe.specs.declared.reading.ReadFault.{ReadFault}
use Rattle.remote_pipe.specs.declared.reading.ReadFault.TheVariants as read
use Rattle.remote_pipe.proofs.AnswerReads.{answer_takes, mapped, only_is}

-- ---- what stands in place of an answer

pub refusal-read : (kind : ℕ) → 1 ≤ kind → kind ≤ 4 → (refusal : Answer) × IsRefusal refusal × (answer_at (255 ∷ kind ∷ []) ≡ Some refusal)
unfolding answer_at
refusal-read zero lo hi = absurd (omega (arith, lo))
refusal-read (suc zero) lo hi = (HasFailed, tt, refl)
refusal-read (suc (suc zero)) lo hi = (IsTooLong, tt, refl)
refusal-read (suc (suc (suc zero))) lo hi = (IsNoRequest, tt, refl)
refusal-read (suc (suc (suc (suc zero)))) lo hi = (HasNoMemory, tt, refl)
refusal-read (suc (suc (suc (suc (suc n))))) lo hi = absurd (omega (arith, hi))

pub refusal-there : (body : List ℕ) (kind : ℕ) → 1 ≤ kind → kind ≤ 4 → body ≡ 255 ∷ kind ∷ [] → (refusal : Answer) × IsRefusal refusal × (answer_at body ≡ Some refusal)
refusal-there body kind lo hi e = let r = refusal-read kind lo hi in (r.0, r.1, ap answer_at e ∙ r.2)

pub refusal-spelled : (body : List ℕ) (refusal : Answer) → IsRefusal refusal → body ≡ answer_bytes refusal → (kind : ℕ) × (1 ≤ kind) × (kind ≤ 4) × (body ≡ 255 ∷ kind ∷ [])
refusal-spelled body Refreshed is e = absurd is
refusal-spelled body (Cloned told) is e = absurd is
refusal-spelled body (Named names) is e = absurd is
refusal-spelled body (Led found) is e = absurd is
refusal-spelled body HasFailed is e = (1, omega arith, omega arith, e)
refusal-spelled body IsTooLong is e = (2, omega arith, omega arith, e)
refusal-spelled body IsNoRequest is e = (3, omega arith, omega arith, e)
refusal-spelled body HasNoMemory is e = (4, omega arith, omega arith, e)

pub no-refusal : (body : List ℕ) → IsBytes body → ((kind : ℕ) × (1 ≤ kind) × (kind ≤ 4) × (body ≡ 255 ∷ kind ∷ []) → ⊥) → (refusal : Answer) → IsRefusal refusal → answer_at body ≡ Some refusal → ⊥
no-refusal body fits never refusal is e = never (refusal-spelled body refusal is (answer_takes body refusal fits e).spelled)

-- ---- no answer of the request's form

pub reads-unanswered : {T : Type 0} (request : Request) (answer_of : T → Answer) (body : List ℕ) (fault : ReadFault)
    → (fault ≡ read.Refused → (refusal : Answer) × IsRefusal refusal × (answer_at body ≡ Some refusal))
    → (fault ≡ read.NoAnswer → (refusal : Answer) → IsRefusal refusal → answer_at body ≡ Some refusal → ⊥)
    → (fault ≡ read.Memory → ⊥)
    → ((answer : Answer) → answer_at body ≡ Some answer → Fits request answer → ⊥)
    → Reads request answer_of body (Err fault)
reads-unanswered request answer_of body read.Refused refused none which never = refused refl
reads-unanswered request answer_of body read.NoAnswer refused none which never =
    λ answer e either. ⊎_elim (λ f. never answer e f) (λ is. none refl answer is e) either
reads-unanswered request answer_of body read.Memory refused none which never = absurd (which refl)

pub refresh-front : (body : List ℕ) (a : Answer) → IsBytes body → answer_at body ≡ Some a → Fits ToRefresh a → body ≡ 129 ∷ []
refresh-front body Refreshed fits e f = (answer_takes body Refreshed fits e).spelled
refresh-front body (Cloned told) fits e f = absurd f
refresh-front body (Named names) fits e f = absurd f
refresh-front body (Led found) fits e f = absurd f
refresh-front body HasFailed fits e f = absurd f
refresh-front body IsTooLong fits e f = absurd f
refresh-front body IsNoRequest fits e f = absurd f
refresh-front body HasNoMemory fits e f = absurd f

pub clone-front : (body : List ℕ) (a : Answer) → IsBytes body → answer_at body ≡ Some a → Fits ToClone a → (rest : List ℕ) × (body ≡ 130 ∷ rest)
clone-front body Refreshed fits e f = absurd f
clone-front body (Cloned told) fits e f = (_, (answer_takes body (Cloned told) fits e).spelled)
clone-front body (Named names) fits e f = absurd f
clone-front body (Led found) fits e f = absurd f
clone-front body HasFailed fits e f = absurd f
clone-front body IsTooLong fits e f = absurd f
clone-front body IsNoRequest fits e f = absurd f
clone-front body HasNoMemory fits e f = absurd f

pub names-front : (body : List ℕ) (a : Answer) (x : Name) (back room : ℕ) → IsBytes body → answer_at body ≡ Some a → Fits (ToNames x back room) a → (rest : List ℕ) × (body ≡ 131 ∷ rest)
names-front body Refreshed x back room fits e f = absurd f
names-front body (Cloned told) x back room fits e f = absurd f
names-front body (Named names) x back room fits e f = (_, (answer_takes body (Named names) fits e).spelled)
names-front body (Led found) x back room fits e f = absurd f
names-front body HasFailed x back room fits e f = absurd f
names-front body IsTooLong x back room fits e f = absurd f
names-front body IsNoRequest x back room fits e f = absurd f
names-front body HasNoMemory x back room fits e f = absurd f

pub path-front : (body : List ℕ) (a : Answer) (heads : List Name) (name : Name) → IsBytes body → answer_at body ≡ Some a → Fits (ToPath heads name) a
    → ((rest : List ℕ) × (body ≡ 132 ∷ rest)) ⊎ (body ≡ 133 ∷ [])
path-front body Refreshed heads name fits e f = absurd f
path-front body (Cloned told) heads name fits e f = absurd f
path-front body (Named names) heads name fits e f = absurd f
path-front body (Led None) heads name fits e f = inr (answer_takes body (Led None) fits e).spelled
path-front body (Led (Some path)) heads name fits e f = inl (_, (answer_takes body (Led (Some path)) fits e).spelled)
path-front body HasFailed heads name fits e f = absurd f
path-front body IsTooLong heads name fits e f = absurd f
path-front body IsNoRequest heads name fits e f = absurd f
path-front body HasNoMemory heads name fits e f = absurd f

-- ---- what stands behind the first byte

pub refreshed-there : (body : List ℕ) → body ≡ 129 ∷ [] → answer_at body ≡ Some Refreshed
unfolding answer_at
refreshed-there body e = ap answer_at e

pub nowhere-there : (body : List ℕ) → body ≡ 133 ∷ [] → answer_at body ≡ Some (Led None)
unfolding answer_at
nowhere-there body e = ap answer_at e

clone-at : (body rest : List ℕ) → body ≡ 130 ∷ rest → answer_at body ≡ option_map Cloned (told_at rest)
unfolding answer_at
clone-at body rest e = ap answer_at e

pub names-at : (body rest : List ℕ) → body ≡ 131 ∷ rest → answer_at body ≡ option_map Named (names_told_at rest)
unfolding answer_at
names-at body rest e = ap answer_at e

path-at : (body rest : List ℕ) → body ≡ 132 ∷ rest → answer_at body ≡ option_map (λ (path : Path). Led (Some path)) (way_at rest)
unfolding answer_at
path-at body rest e = ap answer_at e

-- what isn't there is no answer
none-there : (o : Option Answer) (a : Answer) → o ≡ None → o ≡ Some a → ⊥
none-there o a e f = cc

pub clone-reads : (body rest : List ℕ) (result : Result CloneData ReadFault) → body ≡ 130 ∷ rest → ReadsAs (told_at rest) result → Reads ToClone (λ told. Cloned told) body result
clone-reads body rest (Ok told) e r = (clone-at body rest e ∙ ap (λ (o : Option CloneData). option_map Cloned o) r, tt)
clone-reads body rest (Err read.Refused) e r = absurd r
clone-reads body rest (Err read.NoAnswer) e r = λ answer f either. none-there (answer_at body) answer (clone-at body rest e ∙ ap (λ (o : Option CloneData). option_map Cloned o) r) f
clone-reads body rest (Err read.Memory) e r = tt

-- names are no refusal
pub names-fit : (names : List Name) (a : Answer) (x : Name) (back room : ℕ) → Named names ≡ a → (Fits (ToNames x back room) a ⊎ IsRefusal a) → length names ≤ room
names-fit names a x back room e either = ⊎_elim (λ f. f) (λ is. absurd is) (subst (λ (b : Answer). Fits (ToNames x back room) b ⊎ IsRefusal b) (sym e) either)

pub names-reads : (body rest : List ℕ) (room : ℕ) (out : List Name) (found : Option ℕ) (result : Result ℕ ReadFault) → body ≡ 131 ∷ rest
    → IfNone found ((names : List Name) → length names ≤ room → names_told_at rest ≡ Some names → ⊥) → IfSome found (λ n. n ≤ room) → IfSome found (λ n. names_told_at rest ≡ Some (take n out))
    → MatchOption found (result ≡ Err read.NoAnswer) (λ n. result ≡ Ok n) → ReadsNames room out body result
names-reads body rest room out None result e never count there is =
    subst (ReadsNames room out body) (sym is) (λ x back answer f either.
    let m = mapped Named (names_told_at rest) answer (sym (names-at body rest e) ∙ f) in
    never m.0 (names-fit m.0 answer x back room m.2 either) m.1)
names-reads body rest room out (Some n) result e never count there is =
    subst (ReadsNames room out body) (sym is) (λ x back.
    (names-at body rest e ∙ ap (λ (o : Option (List Name)). option_map Named o) there, (let le = count in omega (arith, le, length-take {A = Name} n out))))

pub path-reads : (body rest : List ℕ) (found : Option Path) (result : Result (Option Path) ReadFault) → body ≡ 132 ∷ rest → found ≡ way_at rest
    → MatchOption found (result ≡ Err read.NoAnswer) (λ way. result ≡ Ok (Some way)) → ReadsPath body result
path-reads body rest None result e f is =
    subst (ReadsPath body) (sym is) (λ heads name answer g either. none-there (answer_at body) answer (path-at body rest e ∙ ap (λ (o : Option Path). option_map (λ (path : Path). Led (Some path)) o) (sym f)) g)
path-reads body rest (Some way) result e f is =
    subst (ReadsPath body) (sym is) (λ heads name. (path-at body rest e ∙ ap (λ (o : Option Path). option_map (λ (path : Path). Led (Some path)) o) (sym f), tt))

-- ---- names as pieces

piece-front : (bytes : List ℕ) → 20 ≤ length bytes → piece_at 20 bytes ≡ Some (take 20 bytes, drop 20 bytes)
piece-front bytes le = rw (le-ltb (length bytes) 20 le) refl

pieces-read : (n : ℕ) (bytes : List ℕ) → length bytes ≡ 20 * n → items_at (piece_at 20) n bytes ≡ Some (names_read n bytes, [])
unfolding items_at
pieces-read zero bytes len = ap (λ (l : List ℕ). (let o : Option (List Name × List ℕ) = Some ([], l) in o)) (nil_from_length bytes (omega (arith, len)))
pieces-read (suc n) bytes len =
    ap (λ (p : Option (Name × List ℕ)). p >>= λ first. items_at (piece_at 20) n first.1 >>= λ others. Some (first.0 ∷ others.0, others.1)) (piece-front bytes (omega (arith, len)))
    ∙ ap (λ (p : Option (List Name × List ℕ)). p >>= λ others. Some (take 20 bytes ∷ others.0, others.1)) (pieces-read n (drop 20 bytes) (omega (arith, len, length-drop {A = ℕ} 20 bytes)))

piece-size : (bytes : List ℕ) (x : Name × List ℕ) → piece_at 20 bytes ≡ Some x → length bytes ≡ 20 + length x.1
piece-size bytes x e = by (ltb (length bytes) 20) refl e
  where
    made : Name × List ℕ
    made = (take 20 bytes, drop 20 bytes)

    by : (b : Bool) → ltb (length bytes) 20 ≡ b → cond b None (Some made) ≡ Some x → length bytes ≡ 20 + length x.1
    by true t f = absurd cc
    by false t f =
        let le = ltb-false (length bytes) 20 t in
        let end = ap (λ (y : Name × List ℕ). length y.1) (some_is made x f) in
        omega (arith, le, end, length-drop {A = ℕ} 20 bytes)

-- how many they are, and how many bytes
pieces-size : (n : ℕ) (bytes : List ℕ) (x : List Name × List ℕ) → items_at (piece_at 20) n bytes ≡ Some x → (length x.0 ≡ n) × (length bytes ≡ 20 * n + length x.1)
unfolding items_at
pieces-size zero bytes x e =
    let made : List Name × List ℕ = ([], bytes) in
    subst (λ (y : List Name × List ℕ). (length y.0 ≡ zero) × (length bytes ≡ 20 * zero + length y.1)) (some_is made x e) (refl, omega arith)
pieces-size (suc n) bytes x e =
    let a = bind_some (piece_at 20 bytes) (λ first. items_at (piece_at 20) n first.1 >>= λ others. Some (first.0 ∷ others.0, others.1)) x e in
    let b = bind_some (items_at (piece_at 20) n a.0.1) (λ others. Some (a.0.0 ∷ others.0, others.1)) x a.2 in
    let made : List Name × List ℕ = (a.0.0 ∷ b.0.0, b.0.1) in
    let rest = pieces-size n a.0.1 b.0 b.1 in
    let size = piece-size bytes a.0 a.1 in
    let len = rest.1 in
    subst (λ (y : List Name × List ℕ). (length y.0 ≡ suc n) × (length bytes ≡ 20 * suc n + length y.1)) (some_is made x b.2) (ap suc rest.0, omega (arith, size, len))

pub named-read : (bytes rest : List ℕ) (n : ℕ) → fixed_at w32 bytes ≡ Some (n, rest) → length rest ≡ 20 * n → names_told_at bytes ≡ Some (names_read n rest)
unfolding names_told_at counted_at
named-read bytes rest n e len =
    ap (λ (p : Option (ℕ × List ℕ)). (p >>= λ count. items_at (piece_at 20) count.0 count.1) >>= λ names. only names.0 names.1) e
    ∙ ap (λ (p : Option (List Name × List ℕ)). p >>= λ names. only names.0 names.1) (pieces-read n rest len)

pub named-none : (bytes : List ℕ) (names : List Name) → fixed_at w32 bytes ≡ None → names_told_at bytes ≡ Some names → ⊥
unfolding names_told_at counted_at
named-none bytes names e f =
    let none : names_told_at bytes ≡ None = ap (λ (p : Option (ℕ × List ℕ)). (p >>= λ count. items_at (piece_at 20) count.0 count.1) >>= λ names. only names.0 names.1) e in cc

pub named-size : (bytes rest : List ℕ) (n : ℕ) (names : List Name) → fixed_at w32 bytes ≡ Some (n, rest) → names_told_at bytes ≡ Some names → (length names ≡ n) × (length rest ≡ 20 * n)
unfolding names_told_at counted_at
named-size bytes rest n names e f =
    let g : (items_at (piece_at 20) n rest >>= λ names. only names.0 names.1) ≡ Some names =
    sym (ap (λ (p : Option (ℕ × List ℕ)). (p >>= λ count. items_at (piece_at 20) count.0 count.1) >>= λ names. only names.0 names.1) e) ∙ f in
    let a = bind_some (items_at (piece_at 20) n rest) (λ names. only names.0 names.1) names g in
    let z = only_is a.0.0 names a.0.1 a.2 in
    let s = pieces-size n rest a.0 a.1 in
    let all = s.1 in
    let end = ap (length {A = ℕ}) z.0 in
    (ap (length {A = Name}) (sym z.1) ∙ s.0, omega (arith, all, end))
