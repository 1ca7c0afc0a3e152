use Rattle.std.proofs.Common.{◌≤◌, length, subst}
use Rattle.std.specs.Map.{keys_of}
use Rattle.id_groups.specs.Lists.{AreDistinct}
use Rattle.lazy_names.specs.Cache.{PlainCache, cached_ids}
use Rattle.lazy_names.proofs.Caches.{distinct-keys}
use Rattle.lazy_names.proofs.lazy.LazyNames.len.Goals as goal

pub returns-clause-fits : goal.returns-clause-fits
returns-clause-fits c = subst (λ (z : PlainCache). length z.entries ≤ z.capacity) c.self.view_is c.len.ensures.valid.1

pub returns-clause-once : goal.returns-clause-once
returns-clause-once c = subst (λ (z : PlainCache). AreDistinct (cached_ids z.entries)) c.self.view_is (distinct-keys (keys_of c.self.inside.names.entries) c.len.ensures.valid.0)
