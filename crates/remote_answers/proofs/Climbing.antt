-- Ways up from an id that is reached to one that may be named.
use Rattle.std.proofs.Common.{◌≡◌, ℕ, zero, suc, ◌+◌, ◌-◌, ◌<◌, ◌≤◌, ◌^◌, ◌⊎◌, inl, inr, List, [], ◌∷◌, Option, Some, None, length, refl, sym, ap, subst, ◌∙◌, arith, ⊎_elim, true, false, true≢false}
use Rattle.std.specs.Prelude.{slice_get, IfSome, option_and_then, MatchOption, IsTrue, ◌↔◌}
use Rattle.std.specs.Option.{IsSome}
use Rattle.std.proofs.lemmas.List.{length-map}
use Rattle.id_groups.specs.Lists.{IsIn}
use Rattle.id_groups.specs.Name.{Name}
use Rattle.id_groups.specs.declared.span.IdSpan.{IdSpan}
use Rattle.commit_graph.specs.World.{Row, names_of}
use Rattle.commit_graph.specs.Graph.{Graph, IsWalk, Reaches, first_ancestor, first_of_list}
use Rattle.commit_graph.proofs.Places.{name-at}
use Rattle.commit_graph.proofs.Histories.{in-append}
use Rattle.commit_graph.proofs.Walks.{reaches-self, reaches-parent}
use Rattle.segment_codec.specs.Record.{Segment}
use Rattle.segment_codec.specs.Lent.{segment_of}
use Rattle.segment_codec.specs.declared.lent.SegmentRef.{SegmentRef}
use Rattle.segment_codec.specs.Table.{segment_at, IsHeld, IsLawful, parents_at}
use Rattle.segment_codec.proofs.Numbers.{some_is}
use Rattle.segment_codec.proofs.Tables.{le_or_lt, segment-in, lawful-at, order-of, parents-low, parents-over, parent-below, follow-within}
use Rattle.span_set.specs.Members.{IsMember, IsGreatestBelow}
use Rattle.ancestor_query.specs.Graph.{table_graph}
use Rattle.ancestor_query.proofs.Firsts.{first-add, first-within}
use Rattle.ancestor_query.proofs.Graphs.{reached-below}
use Rattle.remote_rules.specs.Known.{IsReached}
use Rattle.remote_trait.specs.Honest.{IsNamed, IsPathOf, rows_graph}
use Rattle.remote_trait.proofs.Rows.{named-once, id_of, id-of-named, parent-row}
use Rattle.remote_answers.specs.Master.{IsMasterIn, name_at}
use Rattle.remote_answers.specs.Paths.{AreReached, IsMergeParent, LeadsTo, BeginsChild, IsBegunBy, IsChild, IsLast}
use Rattle.remote_answers.specs.declared.path.Way.{Way}
use Rattle.remote_answers.specs.declared.path.Child.{Child}
use Rattle.remote_answers.proofs.Walking.{held-of, within, walk-ids, walk-names, first-named, parents-named, there-down, down-there, named-at, in-map}

some-same : {X : Type 0} (a b : X) → Some a ≡ Some b → a ≡ b
some-same a b e = cc

-- a child of the id that begins a segment and is reached stands at this place or behind it
pub record ChildAhead (flats : List Segment) (ids : List IdSpan) (id at : ℕ) : Type 0 where
  pub rows : List (Row Name)
  pub master : IsMasterIn flats rows
  pub segment : Segment
  pub begins : BeginsChild flats ids id segment
  pub below : segment.low < length rows
  pub ahead : at ≤ segment.low

-- the greatest id that is reached up to one, where another is reached below
pub last-is : (ids : List IdSpan) (high : ℕ) (old : Way) (found : Option ℕ) (last : ℕ) → IsMember ids old.from → old.from ≤ high → found ≡ Some last → IsGreatestBelow ids (high + 1) found
    → IsLast ids high old (record { from = last; back = old.back + (last - old.from) })
last-is ids high old found last i le e g =
    let h = subst (IsGreatestBelow ids (high + 1)) e g in
    let under = h.1 in
    let over = h.2 old.from i (omega (arith, le)) in
    record { reached = h.0; above = over; within = omega (arith, under); greatest = λ x k l. h.2 x k (omega (arith, l)); back = omega (arith, over) }

-- the last step of a walk
last-step : (g : Graph ℕ) (walk : List ℕ) (t x : ℕ) → IsWalk g t walk x → (t ≡ x) ⊎ ((c : ℕ) × Reaches g t c × IsIn x (g.parents c))
last-step g [] t x e = inl e
last-step g (p ∷ more) t x w = ⊎_elim
    (λ e. inr (t, reaches-self g t, subst (λ z. IsIn z (g.parents t)) e w.0))
    (λ r. inr (r.0, reaches-parent g t p r.0 w.0 r.1, r.2))
    (last-step g more p x w.1)

one-of : (x : ℕ) (xs : List ℕ) → IsIn x xs → (2 ≤ length xs → ⊥) → xs ≡ x ∷ []
one-of x [] i n = absurd i
one-of x (y ∷ []) (inl e) n = ap (λ z. z ∷ []) (sym e)
one-of x (y ∷ []) (inr i) n = absurd i
one-of x (y ∷ z ∷ xs) i n = absurd (n (omega arith))

module _ (flats : List Segment) (lawful : IsLawful flats) where
  -- a way from a greater id of the segment
  pub leads-last : (id : ℕ) (old new : Way) (s : Segment) (ids : List IdSpan) → segment_at flats old.from ≡ Some s → IsLast ids s.high old new → LeadsTo flats id old → LeadsTo flats id new
  leads-last id old new s ids found last h =
      let f = segment-in flats old.from s found in
      let low = f.1.0 in
      let above = last.above in let high = last.within in let back = last.back in
      let here = lawful-at flats lawful new.from s f.0 (omega (arith, low, above), high) in
      first-add (table_graph flats) old.back (new.from - old.from) new.back new.from (omega (arith, above, back))
      ∙ ap (option_and_then (first_ancestor (table_graph flats) old.back)) (first-within flats lawful new.from s here (new.from - old.from) (omega (arith, low, above)) ∙ ap (λ z. Some z) (let e : new.from - (new.from - old.from) ≡ old.from = omega (arith, above) in e))
      ∙ h

  child-parents : (ids : List IdSpan) (id : ℕ) (s : Segment) → BeginsChild flats ids id s → parents_at flats s.low ≡ s.parents
  child-parents ids id s b = let f = segment-in flats s.low s b.holds in parents-low flats lawful s f.0

  pub child-above : (ids : List IdSpan) (id : ℕ) (child : Child) → IsChild flats ids id child → id < child.id
  child-above ids id child k =
      let under = (parent-below flats lawful k.segment.low id (subst (IsIn id) (sym (child-parents ids id k.segment k.begins)) k.begins.child)).0 in
      subst (λ z. id < z) (sym k.is) under

  pub child-reached : (ids : List IdSpan) (id : ℕ) (child : Child) → IsChild flats ids id child → IsMember ids child.id
  child-reached ids id child k = subst (IsMember ids) (sym k.is) k.begins.reached

  -- from a child with one parent the way goes on
  pub leads-child : (id : ℕ) (last : Way) (ids : List IdSpan) (child : Child) → IsChild flats ids last.from child → child.is_merge ≡ false → LeadsTo flats id last
      → LeadsTo flats id (record { from = child.id; back = last.back + 1 })
  leads-child id last ids child k single h =
      let ps = child-parents ids last.from k.segment k.begins in
      let one = one-of last.from k.segment.parents k.begins.child (λ two. true≢false (sym (k.merge.1 two) ∙ single)) in
      let up : first_of_list (parents_at flats child.id) ≡ Some last.from = ap (λ z. first_of_list (parents_at flats z)) k.is ∙ ap first_of_list (ps ∙ one) in
      first-add (table_graph flats) last.back 1 (last.back + 1) child.id (omega arith)
      ∙ ap (option_and_then (first_ancestor (table_graph flats) last.back)) up ∙ h

  pub merge-parent : (ids : List IdSpan) (id : ℕ) (child : Child) → IsChild flats ids id child → child.is_merge ≡ true → IsMergeParent flats ids id
  merge-parent ids id child k merge =
      let ps = child-parents ids id k.segment k.begins in
      (k.segment.low, k.begins.reached, subst (λ l. 2 ≤ length l) (sym ps) (k.merge.0 merge), subst (IsIn id) (sym ps) k.begins.child)

  module _ (rows : List (Row Name)) (m : IsMasterIn flats rows) (heads : List Name) (tops ids : List IdSpan) (r : AreReached flats rows heads tops ids) where
    pub reached-within : (x : ℕ) → IsMember ids x → x < length rows
    reached-within x i =
        let a = (r.ids_are x).0 i in
        let top = (r.heads_are a.0).0 a.1 in
        let lt = within rows a.0 top.0 top.2 in
        let le = reached-below flats lawful a.0 x a.2 in omega (arith, lt, le)

    -- the greatest reached id of its segment, if it is no head, has a child that begins a segment behind it
    pub some-child : (old new : Way) (s : Segment) → segment_at flats old.from ≡ Some s → IsLast ids s.high old new → (IsMember tops new.from → ⊥)
        → (t : Segment) × BeginsChild flats ids new.from t × (t.low < length rows) × (s.high + 1 ≤ t.low)
    some-child old new s found last none =
        let a = (r.ids_are new.from).0 last.reached in
        ⊎_elim
        (λ e. absurd (none (subst (IsMember tops) e a.1)))
        (λ c. begins c.0 ((r.ids_are c.0).1 (a.0, a.1, c.1)) c.2)
        (last-step (table_graph flats) a.2.0 a.0 new.from a.2.1)
      where
        begins : (c : ℕ) → IsMember ids c → IsIn new.from (parents_at flats c) → (t : Segment) × BeginsChild flats ids new.from t × (t.low < length rows) × (s.high + 1 ≤ t.low)
        begins c i p =
            let lt = reached-within c i in
            let h = held-of flats rows m c lt in
            let t = h.0 in
            let f = segment-in flats c t h.1 in
            let inside = f.1 in
            let under = (parent-below flats lawful c new.from p).0 in
            let beyond : s.high < c = ⊎_elim (λ le. let g = last.greatest c i le in absurd (omega (arith, g, under))) (λ l. l) (le_or_lt c s.high) in
            ⊎_elim
            (λ le.
            let same : c ≡ t.low = (let lo = inside.0 in omega (arith, lo, le)) in (
              t,
              record {
                holds = subst (λ z. segment_at flats z ≡ Some t) same h.1;
                reached = subst (IsMember ids) same i;
                child = subst (IsIn new.from) (ap (parents_at flats) same ∙ parents-low flats lawful t f.0) p;
              },
              subst (λ z. z < length rows) same lt,
              (omega (arith, beyond, same)),
            ))
            (λ l.
            let one = subst (IsIn new.from) (parents-over flats lawful t f.0 c l inside.1) p in
            let is : new.from ≡ c - 1 = ⊎_elim (λ e. e) (λ j. absurd j) one in
            let hi = inside.1 in
            let within_t = lawful-at flats lawful new.from t f.0 (omega (arith, is, l), omega (arith, is, hi)) in
            let g = segment-in flats old.from s found in
            let lo = g.1.0 in let above = last.above in
            let within_s = lawful-at flats lawful new.from s g.0 (omega (arith, lo, above), last.within) in
            let one_segment = some-same t s (sym within_t ∙ within_s) in
            let top = subst (λ (z : Segment). c ≤ z.high) one_segment hi in
            absurd (omega (arith, top, beyond)))
            (le_or_lt c t.low)

    -- ---- the answers

    pub no-name : (name : Name) → (IsIn name (names_of rows) → ⊥) → IsReached (rows_graph rows) heads name → ⊥
    no-name name off reach =
        let t = down-there rows reach.0 reach.2 in
        let w = walk-ids flats rows m reach.3.0 t.0 reach.0 name t.1 reach.3.1 in
        off (subst (λ z. IsIn z (names_of rows)) w.1.named (name-at rows w.0 w.1.row w.1.there))

    pub no-path : (name : Name) (id : ℕ) → IsNamed rows id name → (IsMember ids id → ⊥) → IsReached (rows_graph rows) heads name → ⊥
    no-path name id at none reach =
        let t = down-there rows reach.0 reach.2 in
        let w = walk-ids flats rows m reach.3.0 t.0 reach.0 name t.1 reach.3.1 in
        let same : w.0 ≡ id = sym (id-of-named rows m.world w.0 name w.1) ∙ id-of-named rows m.world id name at in
        none ((r.ids_are id).1 (t.0, (r.heads_are t.0).1 (reach.0, reach.1, t.1), subst (Reaches (table_graph flats) t.0) same w.2))

    known-by : (x : Name) (id : ℕ) → IsNamed rows id x → IsMergeParent flats ids id → (merge : Name) × IsReached (rows_graph rows) heads merge × (2 ≤ length ((rows_graph rows).parents merge)) × IsIn x ((rows_graph rows).parents merge)
    known-by x id at k =
        let a = (r.ids_are k.0).0 k.1 in
        let h = (r.heads_are a.0).0 a.1 in
        let w = walk-names flats rows m a.2.0 a.0 k.0 h.0 h.2 a.2.1 in
        let row = w.1.row in
        let ps : (rows_graph rows).parents w.0 ≡ row.parents = subst (λ z. (rows_graph rows).parents z ≡ row.parents) w.1.named (parents-named flats rows m k.0 row w.1.there) in
        let ids_ps = m.parents k.0 row w.1.there in
        let two = k.2 in
        let size : length (parents_at flats k.0) ≡ length ((rows_graph rows).parents w.0) = ap length ids_ps ∙ length-map row.parents (id_of rows) ∙ ap length (sym ps) in
        let p = in-map (id_of rows) row.parents id (subst (IsIn id) ids_ps k.3) in
        let named = (parent-row rows m.world k.0 row w.1.there p.0 p.1).0 in
        let same : p.0 ≡ x = named-once rows id p.0 x (subst (λ n. IsNamed rows n p.0) (sym p.2) named) at in
        (w.0, (h.0, h.1, there-down rows a.0 h.0 h.2, w.2), omega (arith, two, size), subst (IsIn x) (sym ps) (subst (λ z. IsIn z row.parents) same p.1))

    pub is-path : (name x : Name) (id : ℕ) (way : Way) → IsNamed rows id name → IsNamed rows way.from x → LeadsTo flats id way → IsMember tops way.from ⊎ IsMergeParent flats ids way.from
        → IsPathOf rows heads name (Some (record { from = x; back = way.back }))
    is-path name x id way at from leads known = (
      ⊎_elim
          (λ t.
          let h = (r.heads_are way.from).0 t in
          inl (subst (λ z. IsIn z heads) (named-once rows way.from h.0 x h.2 from) h.1, there-down rows way.from x from))
          (λ k. inr (known-by x way.from from k))
          known,
      first-named flats rows m way.back way.from x from ∙ ap (option_and_then (name_at rows)) leads ∙ named-at rows id name at,
    )

-- ---- the search for a child

pub flat-some : (flats : List Segment) (x y : ℕ) (o : Option SegmentRef) → x ≡ y → IsHeld flats y → MatchOption o (segment_at flats x ≡ None) (λ r. segment_at flats x ≡ Some (segment_of r)) → IsSome o
flat-some flats x y None e h f = let g : None ≡ Some h.0 = sym f ∙ ap (segment_at flats) e ∙ h.1 in cc
flat-some flats x y (Some r) e h f = refl

low-holds : (flats : List Segment) → IsLawful flats → (x : ℕ) (s : Segment) → segment_at flats x ≡ Some s → segment_at flats s.low ≡ Some s
low-holds flats lawful x s e = let f = segment-in flats x s e in let lo = f.1.0 in let hi = f.1.1 in lawful-at flats lawful s.low s f.0 (omega arith, omega (arith, lo, hi))

pub child-is : (flats : List Segment) → IsLawful flats → (ids : List IdSpan) (id x : ℕ) (s : Segment) (child : Child) (low : ℕ) → segment_at flats x ≡ Some s → low ≡ s.low → IsMember ids low → IsIn id s.parents → child.id ≡ low
    → IsTrue child.is_merge ↔ 2 ≤ length s.parents → IsChild flats ids id child
child-is flats lawful ids id x s child low e is reached parent same merge = record {
  segment = s;
  begins = record { holds = low-holds flats lawful x s e; reached = subst (IsMember ids) is reached; child = parent };
  is = same ∙ is;
  merge = merge;
}

at-in : (flats : List Segment) (k : ℕ) (s : Segment) → slice_get flats k ≡ Some s → IsIn s flats
at-in [] k s e = absurd cc
at-in (t ∷ rest) zero s e = inl (sym (some_is t s e))
at-in (t ∷ rest) (suc k) s e = inr (at-in rest k s e)

-- what begins the segment at a place
pub child-begun : (flats : List Segment) → IsLawful flats → (ids : List IdSpan) (id k : ℕ) (s : Segment) (child : Child) → slice_get flats k ≡ Some s → IsBegunBy ids id s child → IsChild flats ids id child
child-begun flats lawful ids id k s child e b =
    let i = at-in flats k s e in let order = order-of flats lawful s i in
    record {
      segment = s;
      begins = record { holds = lawful-at flats lawful s.low s i (omega arith, order); reached = subst (IsMember ids) b.is b.reached; child = b.parent };
      is = b.is;
      merge = b.merge;
    }

pub some-begun : (flats : List Segment) → IsLawful flats → (ids : List IdSpan) (id k : ℕ) (s : Segment) (found : Option Child) → slice_get flats k ≡ Some s
    → IfSome found (λ c. IsBegunBy ids id s c) → IfSome found (λ c. IsChild flats ids id c)
some-begun flats lawful ids id k s None e h = h
some-begun flats lawful ids id k s (Some child) e h = child-begun flats lawful ids id k s child e h

pub ahead-held : (flats : List Segment) (ids : List IdSpan) (id at : ℕ) → ChildAhead flats ids id at → IsHeld flats at
ahead-held flats ids id at a = let le = a.ahead in let lt = a.below in held-of flats a.rows a.master at (omega (arith, le, lt))

pub ahead-small : (flats : List Segment) (ids : List IdSpan) (id at : ℕ) → ChildAhead flats ids id at → at < 16777216
ahead-small flats ids id at a = let le = a.ahead in let lt = a.below in let few = a.master.few in omega (arith, le, lt, few)

pub ahead-more : (flats : List Segment) → IsLawful flats → (ids : List IdSpan) (id at : ℕ) → ChildAhead flats ids id at → (x : ℕ) (s : Segment) (next : ℕ) → segment_at flats x ≡ Some s → x ≡ at
    → (IsIn id s.parents → IsMember ids s.low → ⊥) → next ≡ s.high + 1 → ChildAhead flats ids id next
ahead-more flats lawful ids id at a x s next e is none goes = record {
  rows = a.rows;
  master = a.master;
  segment = a.segment;
  begins = a.begins;
  below = a.below;
  ahead = ⊎_elim
      (λ le.
      let f = segment-in flats x s e in
      let lo = f.1.0 in let over = a.ahead in
      let here = lawful-at flats lawful a.segment.low s f.0 (omega (arith, lo, over, is), le) in
      let same = some-same s a.segment (sym here ∙ a.begins.holds) in
      absurd (none (subst (λ (z : Segment). IsIn id z.parents) (sym same) a.begins.child) (subst (λ (z : Segment). IsMember ids z.low) (sym same) a.begins.reached)))
      (λ lt. omega (arith, lt, goes))
      (le_or_lt a.segment.low s.high);
}

-- a segment with an id of a row ends with one
pub high-below : (flats : List Segment) (rows : List (Row Name)) (m : IsMasterIn flats rows) (x : ℕ) (s : Segment) → x < length rows → segment_at flats x ≡ Some s → s.high < length rows
high-below flats rows m x s lt e =
    let f = segment-in flats x s e in
    ⊎_elim
    (λ j. let w = follow-within 0 (length rows) m.masters m.follow s j in let top = w.2 in omega (arith, top))
    (λ j. let w = follow-within (2 ^ 56) (2 ^ 56 + m.other_count) m.others m.behind s j in let low = w.0 in let under = f.1.0 in let few = m.few in absurd (omega (arith, low, under, lt, few)))
    (in-append s m.masters m.others (subst (IsIn s) m.parts f.0))
