-- What is asked for, in the words of the rules of asks.
use Rattle.std.proofs.Common.{◌≡◌, ◌≢◌, ℕ, ◌+◌, ◌<◌, ◌≤◌, inl, inr, List, [], ◌∷◌, Option, Some, None, refl, ap, subst, arith}
use Rattle.std.specs.Prelude.{IfSome}
use Rattle.std.specs.List.{AllByRecursion}
use Rattle.std.specs.declared.result.Result.{Result}
use Rattle.id_groups.specs.Name.{Name}
use Rattle.batch_codec.specs.Payload.{Known}
use Rattle.segment_codec.specs.Record.{Segment}
use Rattle.remote_rules.specs.Mirror.{Mirror}
use Rattle.remote_rules.specs.Calls.{IsAskedFor}
use Rattle.remote_rules.specs.Asking.{IsOneAsk, AsksInTurn, AsksForNames, total}
use Rattle.remote_rules.specs.declared.MirrorFault.{MirrorFault}
use Rattle.remote_rules.specs.declared.MirrorFault.TheVariants as mirror
use Rattle.remote_trait.specs.Calls.{Leaves, raised}
use Rattle.remote_trait.specs.Honest.{IsPathOf}
use Rattle.remote_trait.proofs.Ruled.{asked-for}
use Rattle.mirror_set.specs.Asking.{AskInTurn, end_of}
use Rattle.mirror_set.proofs.Ruled.{asks-ruled, turns-ruled}
use Rattle.lazy_names.specs.declared.fault.LazyFault.{LazyFault}
use Rattle.lazy_names.specs.declared.fault.LazyFault.TheVariants as lazy
use Rattle.lazy_names.specs.Finding.{IsAsked}
use Rattle.lazy_names.specs.Gathering.{AsksFor}

-- one ask for one name
one-name : (end : Option MirrorFault) (before now : List Mirror) → IsOneAsk (IsAskedFor 1) before end now → (answered : ℕ) × AsksInTurn answered (1 ∷ []) before end now
one-name None before now a = (1, inr (now, 0, refl, a, (refl, refl, refl)))
one-name (Some fault) before now a = (0, inl (fault, refl, refl, a))

pub find-ruled : (flats : List Segment) (known : List Known) (bound : ℕ) (heads : List Name) (name : Name) (before now : List Mirror) (result : Result (Option ℕ) LazyFault)
    → IsAsked flats known bound heads name before now result → (answered : ℕ) × (end : Option MirrorFault) × AsksForNames 1 0 answered before end now
find-ruled flats known bound heads name before now result a =
    let answer = a.answered.answer in
    let one = one-name (end_of answer) before now (asks-ruled (Leaves (raised 1)) (IsAskedFor 1) (asked-for 1) (λ found m. IfSome m.master (λ rows. IsPathOf rows heads name found)) before now answer a.answered.asks) in
    (one.0, end_of answer, (1 ∷ [], (omega arith, tt), omega arith, λ le e. (let bad = ap total e in omega (arith, bad)), one.1))

each-one : (counts : List ℕ) → AllByRecursion (λ n. 0 < n) counts → AllByRecursion (λ n. 1 ≤ n) counts
each-one [] h = tt
each-one (n ∷ counts) h = let one = h.0 in (omega (arith, one), each-one counts h.1)

-- no more was answered than was asked for
answered-most : (answered : ℕ) (counts : List ℕ) (end : Option MirrorFault) (before now : List Mirror) → AskInTurn answered counts end before now → answered ≤ total counts
answered-most answered [] end before now h = let none = h.0 in omega (arith, none)
answered-most answered (n ∷ counts) end before now (inl h) = let none = h.2 in omega (arith, none)
answered-most answered (n ∷ counts) end before now (inr h) = let sum = h.2 in let rest = answered-most h.1 counts end h.0 now h.4 in omega (arith, sum, rest)

-- an ask that ended with a fault is one
ended-some : (answered : ℕ) (counts : List ℕ) (fault : MirrorFault) (before now : List Mirror) → AskInTurn answered counts (Some fault) before now → counts ≢ []
ended-some answered [] fault before now h e = let bad = h.1 in cc
ended-some answered (n ∷ counts) fault before now h e = cc

module _ (all gained : ℕ) (before now : List Mirror) where
  few : (counts : List ℕ) → total counts ≤ all → total counts ≤ all + 0
  few counts le = omega (arith, le)

  pub fetch-asks : (fault : Option LazyFault) (h : AsksFor all gained before now fault) → AsksForNames 0 all h.answered before h.end now
  fetch-asks fault h =
      let le = h.few in
      (h.counts, each-one h.counts h.some, omega (arith, le), λ bad. absurd (omega (arith, bad)), turns-ruled h.answered h.counts h.end before now h.asked)

  pub fetch-ruled : (fault : Option LazyFault) → AsksFor all gained before now fault
      → (answered : ℕ) × (end : Option MirrorFault) × (gained ≤ answered) × AsksForNames 0 all answered before end now
  fetch-ruled fault h = (h.answered, h.end, h.gain, fetch-asks fault h)

  pub whole-ruled : AsksFor all gained before now None → AsksForNames all 0 all before None now
  whole-ruled h =
      let done : h.answered ≡ all = h.ends.1 in
      let asked = subst (λ n. AsksInTurn n h.counts before None now) done (subst (λ e. AsksInTurn h.answered h.counts before e now) h.ends.0 (turns-ruled h.answered h.counts h.end before now h.asked)) in
      let most = answered-most h.answered h.counts h.end before now h.asked in
      (h.counts, each-one h.counts h.some, few h.counts h.few, λ one e. (let none = ap total e in omega (arith, one, none, most, done)), asked)

  vain-ruled : (why : MirrorFault) (h : (counts : List ℕ) × (answered : ℕ) × AskInTurn answered counts (Some why) before now × AllByRecursion (λ n. 0 < n) counts × (total counts ≤ all) × (gained ≤ answered))
      → (answered : ℕ) × (gained ≤ answered) × AsksForNames all 0 answered before (Some why) now
  vain-ruled why h =
      (h.1, h.5, (h.0, each-one h.0 h.3, few h.0 h.4, λ one e. ended-some h.1 h.0 why before now h.2 e, turns-ruled h.1 h.0 (Some why) before now h.2))

  pub no-remote-ruled : 1 ≤ all → AsksFor all gained before now (Some lazy.NoRemote) → (answered : ℕ) × (gained ≤ answered) × AsksForNames all 0 answered before (Some mirror.NoRemote) now
  no-remote-ruled le h = vain-ruled mirror.NoRemote (h.counts, h.answered, subst (λ e. AskInTurn h.answered h.counts e before now) h.ends h.asked, h.some, h.few, h.gain)

pub all-failed-ruled : (all gained n : ℕ) (before now : List Mirror) → 1 ≤ all → AsksFor all gained before now (Some (lazy.AllFailed n)) → (answered : ℕ) × (gained ≤ answered) × AsksForNames all 0 answered before (Some (mirror.AllFailed n)) now
all-failed-ruled all gained n before now le h =
    vain-ruled all gained before now (mirror.AllFailed n) (h.counts, h.answered, subst (λ e. AskInTurn h.answered h.counts e before now) h.ends h.asked, h.some, h.few, h.gain)
