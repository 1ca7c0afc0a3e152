-- With the payload of a change behind them, payloads that hold the old world hold the new one.
use Rattle.std.proofs.Common.{◌<◌, ◌≤◌, List, [], ◌∷◌, ◌++◌, length, sym, subst, append_assoc, append-nil}
use Rattle.id_groups.specs.Name.{Name}
use Rattle.commit_graph.specs.World.{World, IsNamedWorld, GrowsMaster, rows_of}
use Rattle.batch_codec.specs.Payload.{Payload}
use Rattle.change_rules.specs.Lawful.{MayFollow, AreLawful}
use Rattle.change_rules.specs.Standard.{standard}
use Rattle.change_rules.specs.Change.{flush_change}
use Rattle.change_rules.specs.Holding.{HoldPayloads}
use Rattle.change_rules.proofs.Changes.{change-stands}
use Rattle.change_rules.proofs.Lawful.{change-follows}

pub lawful-snoc : (before payloads : List Payload) (p : Payload) → AreLawful before payloads → MayFollow (before ++ payloads) p → AreLawful before (payloads ++ p ∷ [])
lawful-snoc before [] p h m = (subst (λ l. MayFollow l p) (append-nil before) m, tt)
lawful-snoc before (q ∷ payloads) p h m = (h.0, lawful-snoc (before ++ q ∷ []) payloads p h.1 (subst (λ l. MayFollow l p) (sym (append_assoc before (q ∷ []) payloads)) m))

pub change-held : (payloads : List Payload) (old new : World Name) → HoldPayloads payloads old → IsNamedWorld new → GrowsMaster old new → length new.master ≤ standard.master → length new.others ≤ standard.others
    → 0 < length (rows_of new) → HoldPayloads (payloads ++ flush_change old new ∷ []) new
change-held payloads old new hold named grown fits few some = record {
  lawful = lawful-snoc [] payloads (flush_change old new) hold.lawful (change-follows payloads old new hold.lawful hold.stand hold.world.world named grown.0 grown.1 fits few some);
  stand = change-stands payloads old new hold.world.world hold.stand grown;
  world = named;
}
