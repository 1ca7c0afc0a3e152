-- One read of a log that may grow meanwhile, and the asking behind it.
use Rattle.std.proofs.Common.{◌≡◌, ◌≤◌, ⊎_elim, ◌+◌, ◌-◌, ℕ, min, List, [], ◌++◌, length, take, drop, Option, Some, None, IfSome, sym, ap, subst, ◌∙◌, arith, append_assoc, append-nil, length-append, take-take, take_at}
use Rattle.std.proofs.Math.Seq.{take-append-add}
use Rattle.std.proofs.lemmas.List.{take_all, take-append-le, length-take}
use Rattle.outside.specs.Told.{WhereTold}
use Rattle.outside.proofs.ToldLemmas.{WhereTold-map}
use Rattle.disk_trait.specs.Images.{Told}
use Rattle.disk_trait.specs.Calls.{Goes, Passes, OrRefuses, Succeeds}
use Rattle.disk_trait.specs.Meanwhile.{Meanwhile, AreRead}
use Rattle.disk_trait.proofs.Telling.{goes-map}
use Rattle.gated_log.specs.Load.{OnlyReads, after_reads}
use Rattle.gated_log.specs.Turns.{ReadsBehind}

-- ---- the bytes of one read

pub cut_back : (front out post behind : List ℕ) (len n count : ℕ) → n ≡ length front + count → count ≤ length out → n ≤ len
    → take n (take len ((front ++ (out ++ post)) ++ behind)) ≡ front ++ take count out
cut_back front out post behind len n count is room fits =
    let flat : (front ++ (out ++ post)) ++ behind ≡ front ++ (out ++ (post ++ behind)) = append_assoc front (out ++ post) behind ∙ ap (λ l. front ++ l) (append_assoc out post behind) in
    take-take n len ((front ++ (out ++ post)) ++ behind) fits ∙ ap (take n) flat ∙ ap (λ k. take k (front ++ (out ++ (post ++ behind)))) is
    ∙ take-append-add front (out ++ (post ++ behind)) count ∙ ap (λ l. front ++ l) (take-append-le count out (post ++ behind) room)

pub front_kept : (old now zeros : List ℕ) (end : ℕ) → now ≡ old ++ zeros → end ≡ length old → take end now ≡ old
front_kept old now zeros end is here = ap (take end) is ∙ take_at old zeros end (sym here)

pub all_there : (a : Option (List ℕ)) (before after out0 out1 : List ℕ) (end size count : ℕ) → after ≡ before ++ take count out1 → end ≡ length before → length out0 ≡ size - end
    → IfSome a (λ b. count ≡ min (length out0) (length b - end)) → IfSome a (λ b. out1 ≡ take count (drop end b) ++ drop count out0)
    → IfSome a (λ b. size ≡ length b → before ≡ [] → after ≡ b)
all_there None before after out0 out1 end size count is here room n so = tt
all_there (Some b) before after out0 out1 end size count is here room n so = λ whole none.
    let zero : end ≡ 0 = here ∙ ap length none in
    let all : count ≡ length b = omega (arith, n, room, whole, zero) in
    let front : take count (drop end b) ≡ b = ap (λ k. take count (drop k b)) zero ∙ take_all count b (omega (arith, all)) in
    is ∙ ap (λ l. l ++ take count out1) none ∙ ap (take count) (so ∙ ap (λ l. l ++ drop count out0) front) ∙ take_at b (drop count out0) count (sym all)

pub reads_behind : (a b : Option Meanwhile) (before after out0 out1 : List ℕ) (end size count : ℕ) → after ≡ before ++ take count out1 → end ≡ length before → length before ≤ size → length out0 ≡ size - end
    → length out1 ≡ length out0 → count ≤ length out0 → WhereTold a b (λ old new. AreRead old.film old.now new.now end (take count out1) × (min (length out1) (length (old.film old.now) - end) ≤ count))
    → WhereTold a b (ReadsBehind before size after)
reads_behind a b before after out0 out1 end size count is here fits room same most read =
    WhereTold-map a b (λ old new. AreRead old.film old.now new.now end (take count out1) × (min (length out1) (length (old.film old.now) - end) ≤ count)) (ReadsBehind before size after)
    (λ old new r. (
      take count out1,
      is,
      subst (λ k. AreRead old.film old.now new.now k (take count out1)) here r.0,
      λ there.
          (let k = ap length is in let j = length-append before (take count out1) in let i = length-take count out1 in let m = r.1 in omega (arith, k, j, i, m, there, here, room, same, most, fits)),
    )) read

pub reads_one : (a b : Option Told) → Goes (Succeeds Passes) a b → Goes (OnlyReads 1) a b
reads_one a b w = goes-map (Succeeds Passes) (OnlyReads 1) a b (λ x y r. (1, omega arith, r.1)) w

pub reads_none : (a b : Option Told) → Goes (OrRefuses Passes) a b → Goes (OnlyReads 1) a b
reads_none a b w = goes-map (OrRefuses Passes) (OnlyReads 1) a b (λ x y r. ⊎_elim (λ p. (1, omega arith, p.1)) (λ p. (0, omega arith, p.1 ∙ same x)) r) w
  where
    same : (x : Told) → x ≡ after_reads 0 x
    same x = ap (λ l. record x { past = l }) (sym (append-nil x.past))
