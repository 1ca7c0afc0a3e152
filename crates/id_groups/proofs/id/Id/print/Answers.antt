use Rattle.std.proofs.Common.{rules, arith, ◌≡◌, ◌∙◌, length, ◌≤◌, ◌-◌, ◌<◌, decimal, List, ℕ, drop, ◌∷◌, ◌++◌, []}
use Rattle.std.proofs.Math.ListN.{set}
use Rattle.std.proofs.lemmas.Fmt.{length-decimal-le}
use Rattle.std.proofs.lemmas.List.{drop-set, drop_all}
use Rattle.std.proofs.lemmas.Grind.{common_steps}
use borrow.Rule.Slice.PartMut.{mid_of}
use Rattle.id_groups.specs.Id.{group_of, place_of, id_text}
use Rattle.id_groups.specs.declared.id.Group.TheVariants.{Others}
use Rattle.id_groups.proofs.id.Id.print.Goals as goal

pub write_digits-digits-requires : goal.write_digits-digits-requires
write_digits-digits-requires c = search (rules, length-decimal-le 20)

pub overflow_sub-out : goal.overflow_sub-out
overflow_sub-out c =
    let short : length (decimal c.place.result) ≤ 20 = search (rules, length-decimal-le 20) in
    omega arith

pub overflow_sub-result : goal.overflow_sub-result
overflow_sub-result c =
    let short : length (decimal c.place.result) ≤ 20 = search (rules, length-decimal-le 20) in
    omega arith

-- a byte put before the text at the end of a buffer
put_before : (buf text : List ℕ) (d n b : ℕ) → length buf ≡ n → 0 < d → d ≤ n → drop d buf ≡ text
    → mid_of (d - 1) (n - (d - 1)) (set buf (d - 1) b) ≡ b ∷ text
put_before buf text d n b len low high e = grind (arith, common_steps, drop-set)

-- the text of an id of the others
others_text : (id place : ℕ) (rest : List ℕ) → Others ≡ group_of id → place ≡ place_of id → rest ≡ []
    → 78 ∷ (decimal place ++ rest) ≡ id_text id
others_text id place rest g p e = grind (arith, common_steps)

pub returns-in-Others : goal.returns-in-Others
returns-in-Others c =
    let short : length (decimal c.place.result) ≤ 20 = search (rules, length-decimal-le 20) in
    put_before _ _ c.write_digits-digits.result 24 78 (omega arith) (omega arith) (omega arith) c.write_digits-digits.ensures.written
    ∙ others_text c.args.self c.place.result (drop 24 c.args.out.now) c.in-Others.ensures c.place.ensures.place (drop_all 24 c.args.out.now (omega arith))
