use Rattle.std.proofs.Common.{◌∙◌, map, nat_eq}
use Rattle.id_groups.specs.Lists.{is_in}
use Rattle.remote_rules.specs.CloneData.{KnownName}
use Rattle.remote_trait.specs.Marked.{has}
use Rattle.remote_trait.proofs.Apart.{needed-same}
use Rattle.remote_trait.proofs.broken_heads.has_needed_names.Goals as goal

pub returns : goal.returns
returns c = c.have_names.ensures ∙ needed-same (has c.in_ok-named.named) (λ id. is_in nat_eq id (map (λ (k : KnownName). k.id) c.args.names.now)) c.in_ok-named.ensures c.args.segments.now
