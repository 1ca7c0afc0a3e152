-- Tables of payloads that hold a world, and the payload of the whole.
use Rattle.std.proofs.Common.{◌≡◌, ◌≤◌, ◌+◌, ◌*◌, ◌^◌, ◌++◌, ◌∷◌, [], ℕ, List, length, take, drop, refl, sym, ap, subst, subst₂, ◌∙◌, append-nil, arith, lit≤}
use Rattle.id_groups.specs.Name.{Name}
use Rattle.commit_graph.specs.World.{World, IsHistory, names_of}
use Rattle.segment_codec.specs.Record.{Segment}
use Rattle.batch_codec.specs.Payload.{Payload, names_bytes}
use Rattle.batch_codec.specs.Grammar.{count_after}
use Rattle.batch_codec.specs.Building.{Building, IsBuilt}
use Rattle.batch_codec.proofs.Entries.{names-size}
use Rattle.name_map.specs.Added.{Placed, payloads_of, known_of, AllStand}
use Rattle.change_rules.specs.Lawful.{MayFollow, levels_with}
use Rattle.change_rules.specs.Tables.{known_in, newest, other_names_in, cloned_count}
use Rattle.payload_tables.specs.Kept.{PlainTables, PlainOthers, AreTablesOf}
use Rattle.payload_tables.specs.Pending.{PlainPending, HoldsRows}
use Rattle.payload_tables.specs.Bases.{MayView, ArePending, flat_segments_in}
use Rattle.payload_tables.specs.declared.base.BaseRef.{BaseRef}
use Rattle.payload_tables.proofs.Basing.{OthersFacts, base-others, table-end}
use Rattle.payload_tables.proofs.Lists.{names-length}
use Rattle.compact_rules.specs.Whole.{whole_change}
use Rattle.compact_rules.proofs.Wholes.{whole-held, held-some}
use Rattle.compact_rules.proofs.Behind.{known-rise}
use Rattle.log_compact.specs.Sections.{masters_in, others_in, AscendWithin, StandsWhole}
use Rattle.log_compact.proofs.Sorting.{masters-first, others-last}
use Rattle.log_compact.proofs.Naming.{ascend-rising}

known-same : (added : List Placed) → known_of added ≡ known_in (payloads_of added)
known-same [] = refl
known-same (a ∷ added) = ap (λ l. a.payload.known ++ l) (known-same added)

module _ (tables : PlainTables) (bytes : List ℕ) (added : List Placed) (w : World Name) (s : StandsWhole tables bytes added w) where
  abbrev pub whole : Payload
  whole = whole_change (payloads_of added) w

  pub may-first : MayFollow [] whole
  may-first = (whole-held (payloads_of added) w s.hold (held-some (payloads_of added) w s.hold s.some)).lawful.0

  pub masters-counted : tables.flat.end ≡ length w.master
  masters-counted = table-end tables added s.tables_of ∙ s.hold.stand.count

  pub few-masters : tables.flat.end ≤ 2 ^ 56
  few-masters = let n = masters-counted in let m = may-first.whole.counts.master in let k : 16777216 ≤ 2 ^ 56 = lit≤ tt in omega (arith, n, m, k)

  -- what is known of the other ids of the newest payload
  pub others-known : OthersFacts bytes tables.others (count_after 0 (payloads_of added)) (newest (payloads_of added))
  others-known = base-others bytes tables tables.others (count_after 0 (payloads_of added)) added (record {
    behind = [];
    tables_of = subst (λ l. AreTablesOf tables l) (sym (append-nil added)) s.tables_of;
    stand = subst (λ l. AllStand bytes l) (sym (append-nil added)) s.stand;
    others_of = s.tables_of.others;
    count = refl;
  })

  pub few-others : tables.others.count ≤ 65536
  few-others = let a = others-known.count in let b = others-known.few in omega (arith, a, b)

  -- no row is pending behind the world
  pub none-pending : (none : PlainPending) → none.first ≡ tables.others.count → HoldsRows none [] → ArePending w none []
  none-pending none first held = record {
    first = first ∙ others-known.count ∙ ap (length {A = Name}) s.hold.stand.names ∙ names-length w.others;
    held = held;
    view = subst (λ l. IsHistory [] (w.master ++ l)) (sym (append-nil w.others)) s.hold.world.world;
  }

  pub none-viewed : (base : BaseRef) (none : PlainPending) → none.first ≡ tables.others.count → HoldsRows none [] → MayView base added none
  none-viewed base none first held = record { rows = []; held = held; first = first ∙ others-known.count; parents = tt }

  -- the segments of both groups
  pub masters-whole : (flats : List Segment) → flats ≡ flat_segments_in w ++ [] → masters_in flats ≡ whole.master
  masters-whole flats e = ap masters_in (e ∙ append-nil (flat_segments_in w))
      ∙ masters-first (length w.master) (2 ^ 56 + length (names_of w.others)) whole.master whole.others may-first.whole.cover.master
      (let m = may-first.whole.counts.master in let k : 16777216 ≤ 2 ^ 56 = lit≤ tt in omega (arith, m, k)) may-first.whole.cover.others

  pub others-whole : (flats : List Segment) → flats ≡ flat_segments_in w ++ [] → others_in flats ≡ whole.others
  others-whole flats e = ap others_in (e ∙ append-nil (flat_segments_in w))
      ∙ others-last (length w.master) (2 ^ 56 + length (names_of w.others)) whole.master whole.others may-first.whole.cover.master
      (let m = may-first.whole.counts.master in let k : 16777216 ≤ 2 ^ 56 = lit≤ tt in omega (arith, m, k)) may-first.whole.cover.others

  -- the known names
  pub known-ascend : AscendWithin 0 tables.flat.end (known_of added)
  known-ascend = subst₂ (λ n ks. AscendWithin 0 n ks) (sym masters-counted) (sym (known-same added))
      (ascend-rising 0 (length w.master) (known_in (payloads_of added)) (known-rise [] (payloads_of added) (length w.master) s.hold.stand.count s.hold.lawful).1)

  pub known-whole : known_of added ≡ whole.known
  known-whole = known-same added

  -- the names of the others
  pub names-room : (o : PlainOthers) → o ≡ tables.others → o.names + 20 * o.count ≤ length bytes
  names-room o e = subst (λ (x : PlainOthers). x.names + 20 * x.count ≤ length bytes) (sym e) others-known.room

  pub names-whole : other_names_in (newest (payloads_of added)) ≡ whole.other_names
  names-whole = s.hold.stand.names

  pub names-are : (o : PlainOthers) (names : List ℕ) → o ≡ tables.others → names ≡ take (20 * o.count) (drop o.names bytes) → names ≡ names_bytes whole.other_names
  names-are o names e is = is ∙ ap (λ (x : PlainOthers). take (20 * x.count) (drop x.names bytes)) e ∙ others-known.names ∙ ap names_bytes names-whole

  pub count-is : (o : PlainOthers) (count : ℕ) → o ≡ tables.others → count ≡ o.count → count ≡ length whole.other_names
  count-is o count e is = is ∙ ap (λ (x : PlainOthers). x.count) e ∙ others-known.count ∙ ap (length {A = Name}) names-whole

  pub names-long : (o : PlainOthers) (names : List ℕ) (count : ℕ) → o ≡ tables.others → names ≡ take (20 * o.count) (drop o.names bytes) → count ≡ o.count → length names ≡ 20 * count
  names-long o names count e is n =
      ap (length {A = ℕ}) (names-are o names e is) ∙ names-size whole.other_names may-first.whole.other_names ∙ ap (λ k. 20 * k) (sym (count-is o count e n))

  -- what is built of its sections is the payload
  pub built-whole : (b : Building) (n m : ℕ) → n ≡ tables.flat.end → m ≡ cloned_count (payloads_of added)
      → IsBuilt b (record whole { after = n; cloned = m; levels = levels_with [] whole }) → IsBuilt b whole
  built-whole b n m counted cloned is =
      let p : Payload = whole in
      subst (λ ls. IsBuilt b (record p { levels = ls })) (sym (may-first.levels refl))
      (subst₂ (λ x y. IsBuilt b (record p { after = x; cloned = y; levels = levels_with [] p })) (counted ∙ masters-counted) cloned is)
