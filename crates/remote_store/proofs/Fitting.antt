-- Of which logs a remote is made.
use Rattle.std.proofs.Common.{◌≡◌, ◌≤◌, ◌<◌, ℕ, inl, inr, List, [], ◌∷◌, ◌++◌, length, map, refl, sym, subst, ◌∙◌, arith, true≢false, zero-le}
use Rattle.std.specs.Prelude.{◌↔◌, IsTrue, IfSome, Option, Some, None, Err, nat_le}
use Rattle.std.specs.List.{AllByRecursion}
use Rattle.std.proofs.lemmas.Bool.{le-leb, leb-true}
use Rattle.id_groups.specs.Lists.{IsIn}
use Rattle.id_groups.specs.Name.{Name}
use Rattle.commit_graph.specs.World.{Row}
use Rattle.segment_codec.specs.Record.{Segment}
use Rattle.batch_codec.specs.Payload.{Payload, Known}
use Rattle.batch_codec.specs.Grammar.{IsPayload, count_after}
use Rattle.gated_log.specs.Load.{IsLogOf, Loads}
use Rattle.gated_log.specs.declared.LoadLog.{LoadLog}
use Rattle.gated_log.specs.declared.LoadLog.TheVariants as logs
use Rattle.outside.specs.Counts.{Rose}
use Rattle.remote_trait.specs.declared.fault.RemoteFault.{RemoteFault}
use Rattle.remote_trait.specs.declared.fault.RemoteFault.TheVariants as faults
use Rattle.gated_log.specs.Held.{Held, log_bytes}
use Rattle.gated_log.proofs.Damage.{log-or-damaged}
use Rattle.gated_log.proofs.Reading.{one-log}
use Rattle.name_map.specs.Added.{Placed, payloads_of, known_of, AllStand}
use Rattle.name_map.specs.Map.{count_known}
use Rattle.change_rules.specs.Lawful.{AreLawful}
use Rattle.change_rules.specs.Change.{text_of}
use Rattle.change_rules.specs.Holding.{AreSpelled}
use Rattle.change_rules.specs.Tables.{known_in}
use Rattle.span_set.specs.Members.{IsMember}
use Rattle.payload_tables.specs.Kept.{PlainTables, AreTablesOf}
use Rattle.payload_tables.specs.Pending.{PlainPending, HoldsRows}
use Rattle.payload_tables.proofs.Basing.{table-end}
use Rattle.change_parts.proofs.Invented.{Stands, some-world}
use Rattle.change_parts.proofs.TableFacts.{tables-count, tables-few}
use Rattle.remote_answers.specs.Paths.{IsReachedBy}
use Rattle.remote_answers.specs.declared.reached.Reached.{Reached}
use Rattle.remote_store.specs.Fit.{AreNoRemote, IsUnfit}
use Rattle.remote_store.specs.Loaded.{HaveNames, IsRead, PeeksLog}
use Rattle.remote_store.proofs.Telling.{in-turn}
use Rattle.remote_store.proofs.Mastering.{known-same}
use Rattle.remote_store.proofs.ReadLemmas.{one-list}
use Rattle.remote_store.proofs.Counting.{count-most, count-whole, under, none-lazy, some-lazy}

spelled-so : (payloads : List Payload) → AreSpelled (map text_of payloads) payloads
spelled-so [] = tt
spelled-so (p ∷ payloads) = (refl, spelled-so payloads)

lawful-each : (before payloads : List Payload) → AreLawful before payloads → AllByRecursion IsPayload payloads
lawful-each before [] h = tt
lawful-each before (p ∷ payloads) h = (h.0.whole, lawful-each (before ++ p ∷ []) payloads h.1)

-- whether each id has a known name is found by counting
pub named-counted : (tables : PlainTables) (added : List Placed) → AreTablesOf tables added → (count known : ℕ) → count ≡ tables.flat.end → known ≡ count_known count (known_of added)
    → IsTrue (nat_le count known) ↔ HaveNames added
named-counted tables added are count known e k =
    let end : count ≡ count_after 0 (payloads_of added) = e ∙ table-end tables added are in
    let most = count-most count (known_of added) in
    let whole = count-whole count (known_of added) (subst (AllByRecursion (λ (q : Known). q.id < count)) (known-same added) (under 0 count (payloads_of added) (in-turn [] (payloads_of added) are.lawful) (omega (arith, end)))) in (
      λ t. let le = leb-true count known t in omega (arith, le, k, most, end),
      λ h. le-leb count known (omega (arith, h, k, whole, end)),
    )

module _ (added : List Placed) (lawful : AreLawful [] (payloads_of added)) (texts : List (List ℕ)) (are : texts ≡ map text_of (payloads_of added)) where
  whole-known : HaveNames added → count_after 0 (payloads_of added) ≤ length (known_in (payloads_of added))
  whole-known h = subst (λ (l : List Known). count_after 0 (payloads_of added) ≤ length l) (sym (known-same added)) h

  spelled : AreSpelled texts (payloads_of added)
  spelled = subst (λ l. AreSpelled l (payloads_of added)) (sym are) (spelled-so (payloads_of added))

  -- a remote is made of texts whose payloads know the name of each commit
  pub is-fit : HaveNames added → AreNoRemote texts → ⊥
  is-fit h (inl unlawful) = unlawful (payloads_of added) spelled lawful
  is-fit h (inr lazy) =
      let same : lazy.0 ≡ payloads_of added = one-list [] lazy.0 (payloads_of added) texts lazy.2 lazy.3.lawful are (lawful-each [] (payloads_of added) lawful) in
      let whole = subst (λ (l : List Payload). count_after 0 l ≤ length (known_in l)) (sym same) (whole-known h) in
      true≢false (sym lazy.4 ∙ none-lazy lazy.0 lazy.1 lazy.3.lawful lazy.3.stand lazy.3.world whole)

  stands : Stands (payloads_of added) []
  stands = some-world (payloads_of added) lawful [] (record { parents = tt; distinct = tt; whole = tt; few = zero-le; new = λ x i. absurd i })

  -- and of no others
  pub is-unfit : (HaveNames added → ⊥) → AreNoRemote texts
  is-unfit missing =
      let s = stands in
      inr (
        payloads_of added,
        s.of_world,
        spelled,
        record { lawful = lawful; stand = s.stand; world = s.named },
        some-lazy (payloads_of added) s.of_world lawful s.stand s.named (λ h. missing (subst (λ (l : List Known). count_after 0 (payloads_of added) ≤ length l) (known-same added) h)),
      )

pub read-of : (log : Held) (tables : PlainTables) (none : PlainPending) (added : List Placed) → AreTablesOf tables added → AllStand (log_bytes log) added → log.payloads ≡ map text_of (payloads_of added) → HaveNames added
    → none.first ≡ tables.others.count → HoldsRows none [] → IsRead log tables none
read-of log tables none added t stand texts whole first rows =
    let s = stands added t.lawful log.payloads texts in
    record {
      added = added;
      tables_of = t;
      stand = stand;
      texts = texts;
      all_known = whole;
      first = first ∙ tables-count tables (log_bytes log) added t stand;
      no_rows = rows;
      of_world = s.of_world;
      stands = s.stand;
      named = s.named;
    }

pub others-fit : (tables : PlainTables) (log : Held) (added : List Placed) → AreTablesOf tables added → AllStand (log_bytes log) added → tables.others.count ≤ 65536
others-fit tables log added t stand = let c = tables-count tables (log_bytes log) added t stand in let few = tables-few tables (log_bytes log) added t stand in omega (arith, c, few)

-- nothing is reached from no heads
pub nothing-reached : (flats : List Segment) (rows : List (Row Name)) (r : Reached) → r.heads.items ≡ [] → r.tops ≡ [] → r.ids ≡ [] → IsReachedBy flats rows r
nothing-reached flats rows r heads tops ids = record {
  heads_are = λ x. ((λ i. absurd (subst (λ s. IsMember s x) tops i)), (λ h. absurd (subst (IsIn h.0) heads h.1)));
  ids_are = λ x. ((λ i. absurd (subst (λ s. IsMember s x) ids i)), (λ a. absurd (subst (λ s. IsMember s a.0) tops a.1)));
}

-- bytes of such a log are fit
pub fit-log : (limit : ℕ) (bytes : List ℕ) (log : Held) → IsLogOf limit bytes log → (AreNoRemote log.payloads → ⊥) → IsUnfit limit bytes → ⊥
fit-log limit bytes log h fit (inl lt) = (let le = h.fits in absurd (omega (arith, le, lt)))
fit-log limit bytes log h fit (inr (inl d)) = log-or-damaged bytes log.payloads d.0 h.is_log d.1
fit-log limit bytes log h fit (inr (inr u)) = fit (subst AreNoRemote (one-log bytes u.0 log.payloads u.1 h.is_log) u.2)

-- why a log wasn't read
pub peeked : (limit : ℕ) (b : Option (List ℕ)) (before now : ℕ) (fault : LoadLog) (f : RemoteFault) → ((f ≡ faults.Memory) ↔ (fault ≡ logs.Memory)) → ((x : _) → fault ≡ logs.Disk x → Rose before now)
    → IfSome b (λ bytes. Loads limit bytes (Err fault)) → IfSome b (λ bytes. PeeksLog limit bytes before now (Err f))
peeked limit None before now fault f same cause h = tt
peeked limit (Some bytes) before now fault faults.Memory same cause h = subst (λ x. Loads limit bytes (Err x)) (same.0 refl) h
peeked limit (Some bytes) before now (logs.Damaged at) faults.Failed same cause h = inr (inr (at, h.1))
peeked limit (Some bytes) before now (logs.TooLarge size) faults.Failed same cause h = inr (inl h.0)
peeked limit (Some bytes) before now (logs.Disk x) faults.Failed same cause h = inl (cause x refl)
peeked limit (Some bytes) before now logs.Memory faults.Failed same cause h = let e : faults.Failed ≡ faults.Memory = same.1 refl in cc
