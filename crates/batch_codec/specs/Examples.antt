-- Payloads that the laws name.
use Rattle.std.specs.Prelude.{ℕ, [], ◌∷◌, ◌++◌, replicate}
use Rattle.id_groups.specs.Name.{Name}
use Rattle.batch_codec.specs.Payload.{Payload}

-- the name whose last byte is this and whose others are 0
abbrev pub short_name : ℕ → Name
short_name last = replicate 19 0 ++ last ∷ []

-- a clone of ten ids in a chain, of which the last one is known by the first name; the second name is its head
abbrev pub chain_clone : ℕ → Name → Name → Payload
chain_clone version name head = record {
  version = version;
  kind = 2;
  before = 0;
  after = 10;
  cloned = 10;
  levels = [];
  master = record { low = 0; high = 9; level = 0; parents = [] } ∷ [];
  known = record { id = 9; name = name } ∷ [];
  heads = head ∷ [];
  others = [];
  other_names = [];
}

-- a whole store of six ids in a chain, five of them cloned: the last cloned one is known by the first name, and its head is the second
abbrev pub chain_store : Name → Name → Payload
chain_store name head = record {
  version = 2;
  kind = 3;
  before = 0;
  after = 6;
  cloned = 5;
  master = record { low = 0; high = 5; level = 0; parents = [] } ∷ [];
  levels = [];
  known = record { id = 4; name = name } ∷ record { id = 5; name = short_name 26 } ∷ [];
  heads = head ∷ [];
  others = [];
  other_names = [];
}
