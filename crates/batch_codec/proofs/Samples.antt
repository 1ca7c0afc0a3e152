-- A payload whose bytes are tried, and that it is in the grammar.
use Rattle.std.proofs.Common.{◌≡◌, ℕ, zero, suc, ◌+◌, ◌^◌, ◌<◌, ◌≤◌, ◌++◌, [], ◌∷◌, refl, sym, subst, inl, inr, replicate, arith, lit≤}
use Rattle.std.specs.List.{AllByRecursion}
use Rattle.std.specs.List.Sorted.{IsStrictlyIncreasing}
use Rattle.id_groups.specs.Lists.{IsIn}
use Rattle.id_groups.specs.Name.{Name, IsName}
use Rattle.segment_codec.specs.Record.{IsSegment}
use Rattle.batch_codec.specs.Payload.{Payload}
use Rattle.batch_codec.specs.Examples.{chain_store}
use Rattle.batch_codec.specs.Grammar.{IsPayload, HasFormat, HasLevelsInOrder, IsOfLevel, AscendByLevel}

abbrev pub name-to : ℕ → Name
name-to last = replicate 19 0 ++ last ∷ []

-- a flush of a segment of master ids, of two known ids, and of a record of another id
abbrev pub made : ℕ → ℕ → ℕ → ℕ → ℕ → ℕ → ℕ → Name → Name → Name → Payload
made low high first second other-low other-high parent a c b = record {
  version = 2;
  kind = 1;
  before = 0;
  after = 2;
  cloned = 0;
  levels = [];
  master = record { low = low; high = high; level = 0; parents = [] } ∷ [];
  known = record { id = first; name = a } ∷ record { id = second; name = c } ∷ [];
  heads = [];
  others = record { low = other-low; high = other-high; level = 0; parents = parent ∷ [] } ∷ [];
  other_names = b ∷ [];
}

-- two master ids, and one other id above the first
abbrev pub fork : Payload
fork = made 0 1 0 1 (2 ^ 56) (2 ^ 56) 0 (name-to 161) (name-to 193) (name-to 177)

-- a clone of a segment of master ids, of one known id and of one head
abbrev pub cloned : ℕ → ℕ → ℕ → ℕ → Name → Name → Payload
cloned version low high first name head = record {
  version = version;
  kind = 2;
  before = 0;
  after = 10;
  cloned = 10;
  levels = [];
  master = record { low = low; high = high; level = 0; parents = [] } ∷ [];
  known = record { id = first; name = name } ∷ [];
  heads = head ∷ [];
  others = [];
  other_names = [];
}

-- ten ids in a chain, of both versions
abbrev pub chain : ℕ → Payload
chain version = cloned version 0 9 9 (name-to 25) (name-to 25)

-- a flush of a segment of two other ids
abbrev pub loose : ℕ → ℕ → Name → Name → Payload
loose low high a b = record {
  version = 2;
  kind = 1;
  before = 0;
  after = 0;
  cloned = 0;
  levels = [];
  master = [];
  known = [];
  heads = [];
  others = record { low = low; high = high; level = 0; parents = [] } ∷ [];
  other_names = a ∷ b ∷ [];
}

-- two other ids in a chain
abbrev pub twins : Payload
twins = loose (2 ^ 56) (2 ^ 56 + 1) (name-to 161) (name-to 177)

all-fit : (n last : ℕ) → last < 256 → AllByRecursion (λ b. b < 256) (replicate n 0 ++ last ∷ [])
all-fit zero last h = (h, tt)
all-fit (suc n) last h = (lit≤ tt, all-fit n last h)

is-name : (last : ℕ) → last < 256 → IsName (name-to last)
is-name last h = (refl, all-fit 19 last h)

both : (id : ℕ) → id < 2 → IsIn id (0 ∷ 1 ∷ [])
both zero h = inl refl
both (suc zero) h = inr (inl refl)
both (suc (suc id)) h = absurd (omega (arith, h))

climb : IsStrictlyIncreasing (0 ∷ 1 ∷ [])
climb zero h = lit≤ tt
climb (suc k) h = absurd (omega (arith, h))

pair-is : IsSegment (record { low = 0; high = 1; level = 0; parents = [] })
pair-is = record { ascending = lit≤ tt; one_group = refl; valid = lit≤ tt; level = lit≤ tt; below = tt; distinct = tt; level_parents = lit≤ tt }

alone : IsStrictlyIncreasing (9 ∷ [])
alone k h = absurd (omega (arith, h))

chain-segment : IsSegment (record { low = 0; high = 9; level = 0; parents = [] })
chain-segment = record { ascending = lit≤ tt; one_group = refl; valid = lit≤ tt; level = lit≤ tt; below = tt; distinct = tt; level_parents = lit≤ tt }

other-is : IsSegment (record { low = 2 ^ 56; high = 2 ^ 56; level = 0; parents = 0 ∷ [] })
other-is = record { ascending = lit≤ tt; one_group = refl; valid = lit≤ tt; level = lit≤ tt; below = (lit≤ tt, tt); distinct = ((λ h. h), tt); level_parents = lit≤ tt }

second : (p : Payload) → p.version ≡ 2 → HasFormat p
second p e = record { version = inr e; no_levels = λ one. absurd (omega (arith, one, e)) }

no-levels : (p : Payload) → p.levels ≡ [] → HasLevelsInOrder p
no-levels p e = record { each = subst (AllByRecursion (IsOfLevel p.after)) (sym e) tt; ascend = subst AscendByLevel (sym e) tt }

pub fork-is : IsPayload fork
fork-is = record {
  format = second fork refl;
  counts = record { grows = lit≤ tt; master = lit≤ tt; others = lit≤ tt };
  cover = record {
    flat_master = ((pair-is, refl), tt);
    flat_others = ((other-is, refl), tt);
    master = (refl, lit≤ tt, refl);
    others = (refl, lit≤ tt, refl);
  };
  parents = record { master = (tt, tt); others = ((inl (lit≤ tt), tt), tt) };
  maximal = record { master = tt; others = tt };
  levels = no-levels fork refl;
  known = record { ascend = climb; within = ((lit≤ tt, lit≤ tt), ((lit≤ tt, lit≤ tt), tt)) };
  by_kind = inl (record { kind = refl; cloned = refl; all_known = λ id low high. both id high; no_heads = refl; something = inl (lit≤ tt) });
  heads_fit = lit≤ tt;
  names = (is-name 161 (lit≤ tt), (is-name 193 (lit≤ tt), tt));
  head_names = tt;
  other_names = (is-name 177 (lit≤ tt), tt);
}

chain-of : (version : ℕ) → HasFormat (chain version) → IsPayload (chain version)
chain-of version format = record {
  format = format;
  counts = record { grows = lit≤ tt; master = lit≤ tt; others = lit≤ tt };
  cover = record {
    flat_master = ((chain-segment, refl), tt);
    flat_others = tt;
    master = (refl, lit≤ tt, refl);
    others = refl;
  };
  parents = record { master = (tt, tt); others = tt };
  maximal = record { master = tt; others = tt };
  levels = no-levels (chain version) refl;
  known = record { ascend = alone; within = ((lit≤ tt, lit≤ tt), tt) };
  by_kind = inr (inl (record { kind = refl; cloned = refl; first = refl; something = lit≤ tt; no_others = refl; known = ((inl refl, tt), tt) }));
  heads_fit = lit≤ tt;
  names = (is-name 25 (lit≤ tt), tt);
  head_names = (is-name 25 (lit≤ tt), tt);
  other_names = tt;
}

pub chain-is : IsPayload (chain 2)
chain-is = chain-of 2 (second (chain 2) refl)

pub old-chain-is : IsPayload (chain 1)
old-chain-is = chain-of 1 (record { version = inl refl; no_levels = λ _. refl })

nothing-climbs : IsStrictlyIncreasing []
nothing-climbs k h = absurd (omega (arith, h))

twins-segment : IsSegment (record { low = 2 ^ 56; high = 2 ^ 56 + 1; level = 0; parents = [] })
twins-segment = record { ascending = lit≤ tt; one_group = refl; valid = lit≤ tt; level = lit≤ tt; below = tt; distinct = tt; level_parents = lit≤ tt }

pub twins-is : IsPayload twins
twins-is = record {
  format = second twins refl;
  counts = record { grows = lit≤ tt; master = lit≤ tt; others = lit≤ tt };
  cover = record {
    flat_master = tt;
    flat_others = ((twins-segment, refl), tt);
    master = refl;
    others = (refl, lit≤ tt, refl);
  };
  parents = record { master = tt; others = (tt, tt) };
  maximal = record { master = tt; others = tt };
  levels = no-levels twins refl;
  known = record { ascend = nothing-climbs; within = tt };
  by_kind = inl (record { kind = refl; cloned = refl; all_known = λ id low high. absurd (omega (arith, high)); no_heads = refl; something = inr (lit≤ tt) });
  heads_fit = lit≤ tt;
  names = tt;
  head_names = tt;
  other_names = (is-name 161 (lit≤ tt), (is-name 177 (lit≤ tt), tt));
}

-- a whole store of two ids in a chain, of which the first was cloned, with a segment of a level of both
abbrev pub stored : ℕ → ℕ → ℕ → ℕ → ℕ → ℕ → Name → Name → Name → Payload
stored low high level-low level-high first second a c head = record {
  version = 2;
  kind = 3;
  before = 0;
  after = 2;
  cloned = 1;
  master = record { low = low; high = high; level = 0; parents = [] } ∷ [];
  levels = record { low = level-low; high = level-high; level = 1; parents = [] } ∷ [];
  known = record { id = first; name = a } ∷ record { id = second; name = c } ∷ [];
  heads = head ∷ [];
  others = [];
  other_names = [];
}

-- two ids, their names and the head of the first
abbrev pub rung : Payload
rung = stored 0 1 0 1 0 1 (name-to 161) (name-to 193) (name-to 161)

nothing-ascends : IsStrictlyIncreasing []
nothing-ascends k h = absurd (omega (arith, h))

level-is : IsSegment (record { low = 0; high = 1; level = 1; parents = [] })
level-is = record { ascending = lit≤ tt; one_group = refl; valid = lit≤ tt; level = lit≤ tt; below = tt; distinct = tt; level_parents = (lit≤ tt, nothing-ascends) }

second-known : (id : ℕ) → 1 ≤ id → id < 2 → IsIn id (0 ∷ 1 ∷ [])
second-known id low high = both id high

pub rung-is : IsPayload rung
rung-is = record {
  format = second rung refl;
  counts = record { grows = lit≤ tt; master = lit≤ tt; others = lit≤ tt };
  cover = record {
    flat_master = ((pair-is, refl), tt);
    flat_others = tt;
    master = (refl, lit≤ tt, refl);
    others = refl;
  };
  parents = record { master = (tt, tt); others = tt };
  maximal = record { master = tt; others = tt };
  levels = record { each = (record { segment = level-is; above = lit≤ tt; below = lit≤ tt }, tt); ascend = tt };
  known = record { ascend = climb; within = ((lit≤ tt, lit≤ tt), ((lit≤ tt, lit≤ tt), tt)) };
  by_kind = inr (inr (record { kind = refl; version = refl; cloned = lit≤ tt; first = refl; something = inl (lit≤ tt); all_known = second-known; known = ((λ _. (inl refl, tt)), tt) }));
  heads_fit = lit≤ tt;
  names = (is-name 161 (lit≤ tt), (is-name 193 (lit≤ tt), tt));
  head_names = (is-name 161 (lit≤ tt), tt);
  other_names = tt;
}

-- the whole store that the laws name
six-is : IsSegment (record { low = 0; high = 5; level = 0; parents = [] })
six-is = record { ascending = lit≤ tt; one_group = refl; valid = lit≤ tt; level = lit≤ tt; below = tt; distinct = tt; level_parents = lit≤ tt }

last-climb : IsStrictlyIncreasing (4 ∷ 5 ∷ [])
last-climb zero h = lit≤ tt
last-climb (suc k) h = absurd (omega (arith, h))

last-known : (id : ℕ) → 5 ≤ id → id < 6 → IsIn id (4 ∷ 5 ∷ [])
last-known id low high = inr (inl (omega (arith, low, high)))

pub store-is : IsPayload (chain_store (name-to 25) (name-to 25))
store-is = record {
  format = second (chain_store (name-to 25) (name-to 25)) refl;
  counts = record { grows = lit≤ tt; master = lit≤ tt; others = lit≤ tt };
  cover = record {
    flat_master = ((six-is, refl), tt);
    flat_others = tt;
    master = (refl, lit≤ tt, refl);
    others = refl;
  };
  parents = record { master = (tt, tt); others = tt };
  maximal = record { master = tt; others = tt };
  levels = no-levels (chain_store (name-to 25) (name-to 25)) refl;
  known = record { ascend = last-climb; within = ((lit≤ tt, lit≤ tt), ((lit≤ tt, lit≤ tt), tt)) };
  by_kind = inr (inr (record { kind = refl; version = refl; cloned = lit≤ tt; first = refl; something = inl (lit≤ tt); all_known = last-known; known = ((λ _. (inl refl, tt)), tt) }));
  heads_fit = lit≤ tt;
  names = (is-name 25 (lit≤ tt), (is-name 26 (lit≤ tt), tt));
  head_names = (is-name 25 (lit≤ tt), tt);
  other_names = tt;
}
