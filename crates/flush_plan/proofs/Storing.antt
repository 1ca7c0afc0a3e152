-- What a change means for the payloads: it may be stored behind them.
use Rattle.std.proofs.Common.{◌≡◌, ◌<◌, ◌≤◌, ℕ, ◌+◌, true, false, List, [], ◌++◌, length, refl, sym, ap, subst, ◌∙◌, arith, true≢false}
use Rattle.id_groups.specs.Name.{Name, same_name}
use Rattle.id_groups.proofs.Names.{same_name-exact, same_name-self}
use Rattle.commit_graph.specs.World.{Row, World, rows_of, with_pending}
use Rattle.segment_codec.specs.Record.{Segment}
use Rattle.batch_codec.specs.Payload.{Payload, payload_bytes}
use Rattle.change_rules.specs.Lawful.{MayFollow, AreLawful}
use Rattle.name_map.specs.Added.{Placed, payloads_of}
use Rattle.change_rules.specs.declared.Limits.{Limits}
use Rattle.change_parts.specs.declared.change.Change.{Change}
use Rattle.change_rules.specs.Standard.{AreLimits}
use Rattle.change_rules.specs.Change.{flush_change}
use Rattle.payload_tables.specs.Kept.{PlainTables}
use Rattle.payload_tables.specs.Pending.{PlainPending}
use Rattle.change_rules.specs.Tables.{StandFor}
use Rattle.change_parts.specs.Moves.{change_in}
use Rattle.change_parts.specs.Plans.{MayBeStored}
use Rattle.payload_tables.proofs.Lists.{names-length}
use Rattle.change_rules.proofs.Flushes.{flush-grows}
use Rattle.change_rules.proofs.Lawful.{change-follows}
use Rattle.change_parts.specs.Facts.{MoveFacts}
use Rattle.flush_plan.proofs.Sizing.{moving, next, next-named, Changes, f-change, f-some, f-same}

module _ (tables : PlainTables) (bytes : List ℕ) (pending : PlainPending) (numbers : List ℕ) (flats : List Segment) (names : List ℕ) (n before : ℕ) (w : World Name) (rows : List (Row Name)) (heads : List Name)
    (f : MoveFacts tables bytes pending numbers flats names n before w rows heads) (added : List Placed) (lawful : AreLawful [] (payloads_of added)) (stand : StandFor (payloads_of added) w) where
  abbrev view : World Name
  view = with_pending w rows

  abbrev new : World Name
  new = next tables bytes pending numbers flats names n before w rows heads f

  abbrev order : List ℕ
  order = moving tables bytes pending numbers flats names n before w rows heads f

  grown : (rest : List (Row Name)) × (new.master ≡ w.master ++ rest)
  grown = flush-grows same_name same_name-exact same_name-self view f.may.pending_rows.view heads f.may.known

  follows : length new.master ≤ 16777216 → length new.others ≤ 65536 → 0 < length (rows_of new) → MayFollow (payloads_of added) (flush_change w new)
  follows fits few some = change-follows (payloads_of added) w new lawful stand f.may.world.world (next-named tables bytes pending numbers flats names n before w rows heads f) grown.0 grown.1 fits few some

  abbrev last : Payload
  last = change_in flats names before n order

  change-is : flush_change w new ≡ last
  change-is = f-change tables bytes pending numbers flats names n before w rows heads f

  pub stays : (limits : Limits) (log : ℕ) (change : Change) → length order ≡ 0 → length rows ≡ 0 → change.payload ≡ [] → change.same ≡ true
      → change.master ≡ length new.master → change.others ≡ length new.others → change.master ≤ limits.master → change.others ≤ limits.others → MayBeStored 1 limits log added change
  stays limits log change none empty payload same master others lm lo =
      let e = f-same tables bytes pending numbers flats names n before w rows heads f none empty in
      record {
        master_fits = lm;
        others_fit = lo;
        next = record {
          stays = λ s. (
            payload,
            master ∙ ap (λ (x : World Name). length x.master) e ∙ sym stand.count,
            others ∙ ap (λ (x : World Name). length x.others) e ∙ sym (ap (length {A = Name}) stand.names ∙ names-length w.others),
          );
          changes = λ s. absurd (true≢false (sym same ∙ s));
        };
      }

  -- the payload may come behind those of the tables
  pub may-follow : length new.master ≤ 16777216 → length new.others ≤ 65536 → Changes tables bytes pending numbers flats names n before w rows heads f → MayFollow (payloads_of added) last
  may-follow fits few c = subst (MayFollow (payloads_of added)) change-is (follows fits few (f-some tables bytes pending numbers flats names n before w rows heads f c))

  pub changes : (limits : Limits) (log : ℕ) (change : Change) → AreLimits limits → Changes tables bytes pending numbers flats names n before w rows heads f → change.payload ≡ payload_bytes last → change.same ≡ false
      → change.master ≡ length new.master → change.others ≡ length new.others → change.master ≤ limits.master → change.others ≤ limits.others → log + 9 + length change.payload ≤ limits.log
      → MayBeStored 1 limits log added change
  changes limits log change l c payload same master others lm lo fits =
      let a = l.others.1 in let b = l.master.1 in
      record {
        master_fits = lm;
        others_fit = lo;
        next = record {
          stays = λ s. absurd (true≢false (sym s ∙ same));
          changes = λ s. (
            last,
            record {
              payload = payload;
              follows = may-follow (omega (arith, lm, master, b)) (omega (arith, lo, others, a)) c;
              kind_is = refl;
              master = master ∙ ap (λ (p : Payload). p.after) change-is;
              others = others ∙ sym (names-length new.others) ∙ ap (λ (p : Payload). length p.other_names) change-is;
              fits = fits;
            },
          );
        };
      }
