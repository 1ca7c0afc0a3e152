-- What is put ahead, and what is passed before something else is asked.
use Rattle.std.proofs.Common.{◌≡◌, ◌<◌, ◌+◌, ◌⊎◌, inl, inr, ⊎_elim, ℕ, zero, suc, false, List, [], ◌∷◌, ◌++◌, length, take, drop, get_or, Ok, Err, refl, sym, ap, subst, ◌∙◌, arith}
use Rattle.std.proofs.Math.Seq.{take-suc}
use Rattle.std.proofs.lemmas.List.{drop_more}
use Rattle.id_groups.specs.Name.{Name}
use Rattle.remote_serve.specs.Requests.{Request}
use Rattle.std.specs.declared.result.Result.{Result}
use Rattle.remote_trait.specs.Runs.{Run}
use Rattle.remote_trait.specs.declared.fault.RemoteFault.{RemoteFault}
use Rattle.remote_pipe.specs.Line.{PlainLine}
use Rattle.remote_pipe.specs.Ahead.{AsksAhead, AsksBehind, PutsAll, Passes, PassesTo, Done, IsNext, IsWanted}
use Rattle.remote_pipe.specs.Steps.{PutsOne}

-- ---- runs in turn

pub behind-more : (put : List Run) (run : Run) (a b c : PlainLine) → AsksBehind put a b → AsksAhead run b c → AsksBehind (put ++ run ∷ []) a c
behind-more [] run a b c e h = (c, subst (λ (l : PlainLine). AsksAhead run l c) e h, refl)
behind-more (x ∷ put) run a b c h g = (h.0, h.1, behind-more put run h.0 b c h.2 g)

-- the runs before the next one, and that one
pub turn-more : (runs : List Run) (i : ℕ) (run : Run) → i < length runs → run ≡ get_or runs i run → take (i + 1) runs ≡ take i runs ++ run ∷ []
turn-more runs i run lt e =
    let more : suc i ≡ i + 1 = omega arith in
    subst (λ (k : ℕ). take k runs ≡ take i runs ++ run ∷ []) more (take-suc runs i run lt ∙ ap (λ (r : Run). take i runs ++ r ∷ []) (sym e))

turn-rest : (runs : List Run) (i : ℕ) (run : Run) → i < length runs → run ≡ get_or runs i run → drop i runs ≡ run ∷ drop (i + 1) runs
turn-rest runs i run lt e = drop_more runs i run lt ∙ ap (λ (r : Run). r ∷ drop (i + 1) runs) (sym e)

parted : (i : ℕ) (runs : List Run) → runs ≡ take i runs ++ drop i runs
parted zero runs = refl
parted (suc i) [] = refl
parted (suc i) (r ∷ runs) = ap (λ (l : List Run). r ∷ l) (parted i runs)

-- a run behind others isn't put
pub all-stopped : (runs queue mine later : List Run) (before mid now : PlainLine) (i : ℕ) (run : Run) → i < length runs → run ≡ get_or runs i run → AsksBehind (take i runs) before mid → mine ≡ queue ++ take i runs
    → PutsOne run mine mid later now false → PutsAll runs queue before later now
all-stopped runs queue mine later before mid now i run lt e asks same one = record {
  put = take i runs;
  rest = drop i runs;
  parts = parted i runs;
  mid = mid;
  asks = asks;
  end = ⊎_elim (λ a. inl (a.0, a.1 ∙ same)) (λ b. inr (run, drop (i + 1) runs, turn-rest runs i run lt e, b.0, b.1 ∙ ap (λ (l : List Run). l ++ run ∷ []) same)) one;
}

-- the first of what was asked ahead
pub next-is : (x : Name) (back room : ℕ) (queue : List Run) → IsNext x back room queue → (run : Run) × (queue ≡ run ∷ drop 1 queue) × IsWanted x back room run
next-is x back room [] h = absurd h
next-is x back room (run ∷ more) h = (run, refl, h)

-- ---- answers that are thrown away

pub passes-unit : (request : Request) (before now : PlainLine) (u : Unit) → Passes request before now (Ok u) → Passes request before now (Ok tt)
passes-unit request before now u p = record { keeps = p.keeps; ends = p.ends }

err-same : {T : Type 0} (fault other : RemoteFault) → (let r : Result Unit RemoteFault = Err fault in r) ≡ Err other → (let r : Result T RemoteFault = Err fault in r) ≡ Err other
err-same fault other e = ap Err (same e)
  where
    same : (let r : Result Unit RemoteFault = Err fault in r) ≡ Err other → fault ≡ other
    same f = cc

never-err : (fault : RemoteFault) (u : Unit) → (let r : Result Unit RemoteFault = Ok u in r) ≡ Err fault → ⊥
never-err fault u e = absurd cc

-- behind what was passed something is done
pub passed-then : {T : Type 0} (P : PlainLine → PlainLine → Result T RemoteFault → Type 0) (queue : List Run) (before : PlainLine) (later : List Run) (mid now : PlainLine) (result : Result T RemoteFault) (u : Unit)
    → PassesTo Done queue before later mid (Ok u) → P mid now result → PassesTo P queue before later now result
passed-then P [] before later mid now result u h p = (h.0, subst (λ (l : PlainLine). P l now result) h.1.0 p)
passed-then P (run ∷ more) before later mid now result u h p =
    ⊎_elim (λ a. inl (a.0, a.1, passed-then P more a.0 later mid now result u a.2 p)) (λ b. absurd (never-err b.0 u b.1)) h

-- it wasn't passed
pub passed-err : {T : Type 0} (P : PlainLine → PlainLine → Result T RemoteFault → Type 0) (queue : List Run) (before : PlainLine) (later : List Run) (now : PlainLine) (fault : RemoteFault)
    → PassesTo Done queue before later now (Err fault) → PassesTo P queue before later now (Err fault)
passed-err P [] before later now fault h = absurd (never-err fault tt (sym h.1.1))
passed-err {T} P (run ∷ more) before later now fault h =
    ⊎_elim (λ a. inl (a.0, a.1, passed-err P more a.0 later now fault a.2)) (λ b. inr (b.0, err-same {T = T} fault b.0 b.1, b.2, b.3)) h
