-- A session on all payloads.
use Rattle.std.proofs.Common.{◌≡◌, ◌≤◌, ◌<◌, ◌+◌, ℕ, zero, suc, List, [], ◌∷◌, ◌++◌, length, map, drop, Option, Some, None, sym, ap, subst, ◌∙◌, arith, get_or, length-append, zero-le}
use Rattle.std.specs.List.{AllByRecursion, last_or}
use Rattle.std.proofs.lemmas.List.{take_all, take-append-drop, length-map}
use Rattle.batch_codec.specs.Payload.{Payload}
use Rattle.batch_codec.specs.Grammar.{count_after}
use Rattle.gated_log.specs.Held.{Held}
use Rattle.name_map.specs.Added.{Placed, payloads_of, AllStand, FollowInLog}
use Rattle.change_rules.specs.Change.{text_of}
use Rattle.change_rules.specs.Tables.{other_names_in}
use Rattle.payload_tables.specs.Kept.{PlainTables, PlainOthers, AreTablesOf, AreOthersIn, last_added}
use Rattle.payload_tables.specs.Pending.{HoldsRows}
use Rattle.payload_tables.specs.declared.base.BaseRef.{BaseRef}
use Rattle.payload_tables.specs.Bases.{IsBaseOf, MayBase, MayView}
use Rattle.payload_tables.proofs.Basing.{table-end}
use Rattle.payload_tables.proofs.Lists.{all-append}
use Rattle.change_parts.specs.Asked.{HaveParents, MayStore}
use Rattle.store_plans.specs.Sessions.{PlainSession, IsSessionOf, base_added, IsOnNewest}
use Rattle.store_plans.specs.Looking.{AreTablesBehind}
use Rattle.store_plans.proofs.Counts.{others-many}

last-few : (o : Option Payload) (count : ℕ) (added : List Placed) → length (other_names_in o) ≤ 65536 → FollowInLog count added → length (other_names_in (last_or o (payloads_of added))) ≤ 65536
last-few o count [] le h = le
last-few o count (a ∷ added) le h = last-few (Some a.payload) a.payload.after added h.0.counts.others h.2

-- they are few
pub others-few : (tables : PlainTables) (added : List Placed) → AreTablesOf tables added → tables.others.count ≤ 65536
others-few tables added t =
    let e = others-many tables.others added t.others in
    let few = last-few None 0 added zero-le t.names.follow in
    omega (arith, e, few)

pub on-newest : (tables : PlainTables) (added : List Placed) (x : PlainSession) → AreTablesOf tables added → x.payloads ≡ length added → x.below ≡ tables.flat.end → x.others ≡ tables.others
    → HoldsRows x.pending [] → x.pending.first ≡ tables.others.count → IsOnNewest added x
on-newest tables added x t payloads below others held first =
    let all : base_added added x ≡ added = take_all x.payloads added (let e = payloads in omega (arith, e)) in (
      record {
        payloads = (let e = payloads in omega (arith, e));
        below = below ∙ table-end tables added t ∙ ap (λ l. count_after 0 (payloads_of l)) (sym all);
        others = subst (λ l. AreOthersIn x.others (last_added l)) (sym all) (subst (λ (o : PlainOthers). AreOthersIn o (last_added added)) (sym others) t.others);
        pending = subst (MayStore x.pending) (sym all)
            (record { rows = []; held = held; first = first ∙ others-many tables.others added t.others; parents = tt; distinct = tt; fresh = λ name i. absurd i });
      },
      payloads,
      held,
    )

-- a session's base, of the bytes of a log with all payloads
pub may-base : (bytes : List ℕ) (tables : PlainTables) (added : List Placed) (x : PlainSession) → IsSessionOf added x → AreTablesOf tables added → AllStand bytes added
    → MayBase bytes tables x.others x.below (base_added added x)
may-base bytes tables added x of t stand =
    let split = sym (take-append-drop x.payloads added) in
    record {
      behind = drop x.payloads added;
      tables_of = subst (AreTablesOf tables) split t;
      stand = subst (AllStand bytes) split stand;
      others_of = of.others;
      count = of.below;
    }

-- all tables, behind those of a session's base
pub tables-behind : (tables : PlainTables) (bytes : List ℕ) (added : List Placed) (x : PlainSession) → AreTablesOf tables added → AllStand bytes added → AreTablesBehind tables bytes (base_added added x)
tables-behind tables bytes added x t stand =
    let whole = sym (take-append-drop x.payloads added) in
    record { behind = drop x.payloads added; tables_of = subst (AreTablesOf tables) whole t; stand = subst (AllStand bytes) whole stand }

-- its rows may stand behind its base
pub own-view : (added : List Placed) (x : PlainSession) → IsSessionOf added x → (base : BaseRef) → IsBaseOf base (base_added added x) → MayView base (base_added added x) x.pending
own-view added x of base b = record { rows = of.pending.rows; held = of.pending.held; first = of.pending.first; parents = subst (λ n. HaveParents n of.pending.rows) (sym b.count) of.pending.parents }

-- each of the sessions is on all payloads of the log
abbrev pub AllOnNewest : Held → PlainTables → List PlainSession → Type 0
AllOnNewest log tables sessions = (added : List Placed) → AreTablesOf tables added → log.payloads ≡ map text_of (payloads_of added) → AllByRecursion (IsOnNewest added) sessions

pub one-at : {X : Type 0} (P : X → Type 0) (xs : List X) (d : X) (s : ℕ) → AllByRecursion P xs → s < length xs → P (get_or xs s d)
one-at P [] d s h lt = absurd (omega (arith, lt))
one-at P (x ∷ xs) d zero h lt = h.0
one-at P (x ∷ xs) d (suc s) h lt = one-at P xs d s h.1 (omega (arith, lt))

pub session-more : (log : Held) (tables : PlainTables) (sessions : List PlainSession) (x : PlainSession) (n : ℕ) → AllOnNewest log tables sessions → n ≡ length log.payloads
    → ((added : List Placed) → AreTablesOf tables added → n ≡ length added → IsOnNewest added x) → AllOnNewest log tables (sessions ++ x ∷ [])
session-more log tables sessions x n all size new = λ added t texts.
    all-append (IsOnNewest added) sessions (x ∷ []) (all added t texts)
    (new added t (size ∙ ap (length {A = List ℕ}) texts ∙ length-map (payloads_of added) text_of ∙ length-map added (λ (a : Placed). a.payload)), tt)

pub count-more : {X : Type 0} (xs items : List X) (x : X) (n : ℕ) → items ≡ xs ++ x ∷ [] → length xs ≡ n → length items ≡ n + 1
count-more xs items x n is size = ap length is ∙ length-append xs (x ∷ []) ∙ ap (λ m. m + 1) size
