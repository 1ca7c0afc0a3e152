use Rattle.std.proofs.Common.{ℕ, List, [], ◌∷◌, length, slice_index, refl, ap, inl, inr, arith}
use Rattle.std.proofs.lemmas.Bool.{eqb-false}
use Rattle.id_groups.specs.Lists.{IsIn}
use Rattle.id_groups.specs.Name.{Name}
use Rattle.batch_codec.specs.Examples.{short_name}
use Rattle.batch_codec.proofs.Samples.{chain-is, old-chain-is, store-is}
use Rattle.batch_codec.proofs.laws.lawful_payloads.Goals as goal

-- the last byte of the first name
abbrev last-byte : List Name → ℕ
last-byte [] = 0
last-byte (name ∷ names) = slice_index name 19

pub returns-clause-clone : goal.returns-clause-clone
returns-clause-clone c = (record { whole = chain-is; count = refl; version = tt; clone_first = λ _. refl; clone_heads = λ _. refl; whole_first = λ _. refl; whole_heads = λ e. absurd (eqb-false 2 3 refl e); distinct = ((λ h. h), tt) }, tt)

pub returns-clause-old_clone : goal.returns-clause-old_clone
returns-clause-old_clone c = (record { whole = old-chain-is; count = refl; version = tt; clone_first = λ _. refl; clone_heads = λ _. refl; whole_first = λ _. refl; whole_heads = λ e. absurd (eqb-false 2 3 refl e); distinct = ((λ h. h), tt) }, tt)

pub returns-clause-store : goal.returns-clause-store
returns-clause-store c = (record { whole = store-is; count = refl; version = tt; clone_first = λ _. refl; clone_heads = λ e. absurd (eqb-false 3 2 refl e); whole_first = λ _. refl; whole_heads = λ _. refl; distinct = (apart, ((λ h. h), tt)) }, tt)
  where
    apart : IsIn (short_name 25) (short_name 26 ∷ []) → ⊥
    apart (inl e) = absurd (eqb-false 25 26 refl (ap (λ (n : Name). slice_index n 19) e))
    apart (inr i) = i

pub returns-clause-other_head : goal.returns-clause-other_head
returns-clause-other_head c = λ m. absurd (eqb-false 26 25 refl (ap last-byte (m.clone_heads refl)))

pub returns-clause-stores_other_head : goal.returns-clause-stores_other_head
returns-clause-stores_other_head c = λ m. absurd (eqb-false 26 25 refl (ap last-byte (m.whole_heads refl)))

pub returns-clause-second_clone : goal.returns-clause-second_clone
returns-clause-second_clone c = λ first m. (let e = ap length (m.clone_first refl) in omega (arith, e))

pub returns-clause-second_store : goal.returns-clause-second_store
returns-clause-second_store c = λ first m. (let e = ap length (m.whole_first refl) in omega (arith, e))

pub returns-clause-older_behind : goal.returns-clause-older_behind
returns-clause-older_behind c = λ first p two one m. (let le = m.version.0 in omega (arith, le, two, one))
