-- An answer that is read is the one that was spelled, and what was spelled is read again.
use Rattle.std.proofs.Common.{◌≡◌, ℕ, ◌+◌, ◌^◌, ◌<◌, Bool, true, false, cond, eqb, List, [], ◌∷◌, ◌++◌, length, Option, Some, None, refl, sym, ap, subst, ◌∙◌}
use Rattle.std.specs.Option.{option_map}
use Rattle.std.specs.List.{flat_map, AllByRecursion}
use Rattle.std.specs.Int.{w32, w64, to_be_bytes}
use Rattle.std.proofs.lemmas.Bool.{eqb-true}
use Rattle.std.proofs.lemmas.List.{append-nil}
use Rattle.id_groups.specs.Name.{Name, IsName}
use Rattle.segment_codec.specs.Record.{Segment}
use Rattle.segment_codec.specs.Reading.{◌>>=◌}
use Rattle.segment_codec.proofs.Numbers.{IsBytes, bytes-rest, bind_some, some_is}
use Rattle.batch_codec.specs.Payload.{names_bytes}
use Rattle.batch_codec.specs.Reading.{fixed_at, piece_at}
use Rattle.batch_codec.proofs.Pieces.{wide64, fixed_takes, fixed_again, piece_takes, piece_again}
use Rattle.remote_rules.specs.CloneData.{CloneData, KnownName}
use Rattle.remote_rules.specs.Known.{Path}
use Rattle.remote_serve.specs.Telling.{IsTold, IsToldName, IsToldClone, IsToldPath}
use Rattle.remote_serve.specs.Answers.{Answer, Refreshed, Cloned, Named, Led, HasFailed, IsTooLong, IsNoRequest, HasNoMemory, told_segment_bytes, told_name_bytes, told_bytes, path_bytes, answer_bytes, IsAnswer}
use Rattle.remote_pipe.specs.Reading.{only, counted_at, segment_at, known_at, told_at, names_told_at, way_at, refusal_at, answer_of_kind, answer_at}
use Rattle.remote_pipe.proofs.Items.{name-is, itself, counted_takes, counted_again, segments_read, knowns_read, pieces_read}

pub only_is : {X : Type 0} (x r : X) (rest : List ℕ) → only x rest ≡ Some r → (rest ≡ []) × (x ≡ r)
only_is x r [] e = (refl, some_is x r e)
only_is x r (b ∷ rest) e = absurd cc

pub mapped : {X Y : Type 0} (f : X → Y) (o : Option X) (y : Y) → option_map f o ≡ Some y → (x : X) × (o ≡ Some x) × (f x ≡ y)
mapped f None y e = absurd cc
mapped f (Some x) y e = (x, refl, some_is (f x) y e)

-- ---- clone data

pub record ToldTaken (bytes : List ℕ) (told : CloneData) : Type 0 where
  pub is : IsToldClone told
  pub spelled : bytes ≡ told_bytes told

told_takes : (bytes : List ℕ) (told : CloneData) → IsBytes bytes → told_at bytes ≡ Some told → ToldTaken bytes told
unfolding told_at told_bytes
told_takes bytes told fits e =
    let a = bind_some (counted_at segment_at bytes) (λ segments. counted_at known_at segments.1 >>= λ names. counted_at (piece_at 20) names.1 >>= λ heads. only (record { segments = segments.0; names = names.0; heads = heads.0 }) heads.1) told e in
    let b = bind_some (counted_at known_at a.0.1) (λ names. counted_at (piece_at 20) names.1 >>= λ heads. only (record { segments = a.0.0; names = names.0; heads = heads.0 }) heads.1) told a.2 in
    let c = bind_some (counted_at (piece_at 20) b.0.1) (λ heads. only (record { segments = a.0.0; names = b.0.0; heads = heads.0 }) heads.1) told b.2 in
    let made : CloneData = record { segments = a.0.0; names = b.0.0; heads = c.0.0 } in
    let z = only_is made told c.0.1 c.2 in
    let segments = counted_takes segment_at told_segment_bytes IsTold segments_read bytes a.0 fits a.1 in
    let names = counted_takes known_at told_name_bytes IsToldName knowns_read a.0.1 b.0 segments.rest b.1 in
    let heads = counted_takes (piece_at 20) itself IsName pieces_read b.0.1 c.0 names.rest c.1 in
    subst (ToldTaken bytes) z.1 (record {
      is = record { few_segments = segments.few; segments = segments.are; few_names = names.few; names = names.are; few_heads = heads.few; heads = heads.are };
      spelled = segments.parts ∙ ap (λ (l : List ℕ). to_be_bytes w32 (length a.0.0) ++ (flat_map told_segment_bytes a.0.0 ++ l))
          (names.parts ∙ ap (λ (l : List ℕ). to_be_bytes w32 (length b.0.0) ++ (flat_map told_name_bytes b.0.0 ++ l))
          (heads.parts ∙ ap (λ (l : List ℕ). to_be_bytes w32 (length c.0.0) ++ (names_bytes c.0.0 ++ l)) z.0 ∙ ap (λ (l : List ℕ). to_be_bytes w32 (length c.0.0) ++ l) (append-nil (names_bytes c.0.0))));
    })

told_back : (told : CloneData) → IsToldClone told → told_at (told_bytes told) ≡ Some told
unfolding told_at told_bytes
told_back told h =
    let heads = to_be_bytes w32 (length told.heads) ++ names_bytes told.heads in
    let heads_end = to_be_bytes w32 (length told.heads) ++ (names_bytes told.heads ++ []) in
    let last : heads ≡ heads_end = ap (λ (l : List ℕ). to_be_bytes w32 (length told.heads) ++ l) (sym (append-nil (names_bytes told.heads))) in
    let names_end = to_be_bytes w32 (length told.names) ++ (flat_map told_name_bytes told.names ++ heads_end) in
    ap (λ (l : List ℕ). told_at (to_be_bytes w32 (length told.segments) ++ (flat_map told_segment_bytes told.segments ++ (to_be_bytes w32 (length told.names) ++ (flat_map told_name_bytes told.names ++ l))))) last
    ∙ ap (λ (p : Option (List Segment × List ℕ)). p >>= λ segments. counted_at known_at segments.1 >>= λ names. counted_at (piece_at 20) names.1 >>= λ heads. only (record { segments = segments.0; names = names.0; heads = heads.0 }) heads.1)
    (counted_again segment_at told_segment_bytes IsTold segments_read told.segments names_end h.few_segments h.segments)
    ∙ ap (λ (p : Option (List KnownName × List ℕ)). p >>= λ names. counted_at (piece_at 20) names.1 >>= λ heads. only (record { segments = told.segments; names = names.0; heads = heads.0 }) heads.1)
    (counted_again known_at told_name_bytes IsToldName knowns_read told.names heads_end h.few_names h.names)
    ∙ ap (λ (p : Option (List Name × List ℕ)). p >>= λ heads. only (record { segments = told.segments; names = told.names; heads = heads.0 }) heads.1)
    (counted_again (piece_at 20) itself IsName pieces_read told.heads [] h.few_heads h.heads)

-- ---- names, and ways

names_take : (bytes : List ℕ) (names : List Name) → IsBytes bytes → names_told_at bytes ≡ Some names
    → ((length names < 2 ^ 32) × AllByRecursion IsName names) × (bytes ≡ to_be_bytes w32 (length names) ++ names_bytes names)
unfolding names_told_at
names_take bytes names fits e =
    let a = bind_some (counted_at (piece_at 20) bytes) (λ names. only names.0 names.1) names e in
    let z = only_is a.0.0 names a.0.1 a.2 in
    let t = counted_takes (piece_at 20) itself IsName pieces_read bytes a.0 fits a.1 in
    subst (λ (ns : List Name). ((length ns < 2 ^ 32) × AllByRecursion IsName ns) × (bytes ≡ to_be_bytes w32 (length ns) ++ names_bytes ns)) z.1
    ((t.few, t.are), t.parts ∙ ap (λ (l : List ℕ). to_be_bytes w32 (length a.0.0) ++ (names_bytes a.0.0 ++ l)) z.0 ∙ ap (λ (l : List ℕ). to_be_bytes w32 (length a.0.0) ++ l) (append-nil (names_bytes a.0.0)))

names_back : (names : List Name) → length names < 2 ^ 32 → AllByRecursion IsName names → names_told_at (to_be_bytes w32 (length names) ++ names_bytes names) ≡ Some names
unfolding names_told_at
names_back names few h =
    ap (λ (l : List ℕ). names_told_at (to_be_bytes w32 (length names) ++ l)) (sym (append-nil (names_bytes names)))
    ∙ ap (λ (p : Option (List Name × List ℕ)). p >>= λ names. only names.0 names.1) (counted_again (piece_at 20) itself IsName pieces_read names [] few h)

way_takes : (bytes : List ℕ) (path : Path) → IsBytes bytes → way_at bytes ≡ Some path → (IsName path.from × (path.back < 2 ^ 64)) × (bytes ≡ path.from ++ to_be_bytes w64 path.back)
unfolding way_at
way_takes bytes path fits e =
    let a = bind_some (piece_at 20 bytes) (λ from. fixed_at w64 from.1 >>= λ back. only (record { from = from.0; back = back.0 }) back.1) path e in
    let b = bind_some (fixed_at w64 a.0.1) (λ back. only (record { from = a.0.0; back = back.0 }) back.1) path a.2 in
    let made : Path = record { from = a.0.0; back = b.0.0 } in
    let z = only_is made path b.0.1 b.2 in
    let from = piece_takes 20 bytes a.0 fits a.1 in
    let back = fixed_takes w64 (2 ^ 64) wide64 a.0.1 b.0 from.rest b.1 in
    subst (λ (p : Path). (IsName p.from × (p.back < 2 ^ 64)) × (bytes ≡ p.from ++ to_be_bytes w64 p.back)) z.1
    ((name-is a.0.0 from.len from.front, back.below), from.parts ∙ ap (λ (l : List ℕ). a.0.0 ++ l) (back.parts ∙ ap (λ (l : List ℕ). to_be_bytes w64 b.0.0 ++ l) z.0 ∙ append-nil (to_be_bytes w64 b.0.0)))

way_back : (path : Path) → IsName path.from → path.back < 2 ^ 64 → way_at (path.from ++ to_be_bytes w64 path.back) ≡ Some path
unfolding way_at
way_back path name below =
    ap (λ (l : List ℕ). way_at (path.from ++ l)) (sym (append-nil (to_be_bytes w64 path.back)))
    ∙ ap (λ (p : Option (List ℕ × List ℕ)). p >>= λ from. fixed_at w64 from.1 >>= λ back. only (record { from = from.0; back = back.0 }) back.1) (piece_again 20 path.from (to_be_bytes w64 path.back ++ []) name.0)
    ∙ ap (λ (p : Option (ℕ × List ℕ)). p >>= λ back. only (record { from = path.from; back = back.0 }) back.1) (fixed_again w64 (2 ^ 64) wide64 path.back [] below)

-- ---- all answers

pub record Taken (bytes : List ℕ) (a : Answer) : Type 0 where
  pub is : IsAnswer a
  pub spelled : bytes ≡ answer_bytes a

-- an answer of which nothing but these bytes is told
alone-taken : (front rest : List ℕ) (x a : Answer) → IsAnswer x → answer_bytes x ≡ front ++ [] → only x rest ≡ Some a → Taken (front ++ rest) a
alone-taken front rest x a is spelled e =
    let z = only_is x a rest e in
    subst (Taken (front ++ rest)) z.1 (record { is = is; spelled = ap (λ (l : List ℕ). front ++ l) z.0 ∙ sym spelled })

refusal_takes : (rest : List ℕ) (a : Answer) → refusal_at rest ≡ Some a → Taken (255 ∷ rest) a
refusal_takes [] a e = absurd cc
refusal_takes (kind ∷ rest) a e = by (eqb kind 1) (eqb kind 2) (eqb kind 3) (eqb kind 4) refl refl refl refl e
  where
    at : (k : ℕ) → eqb kind k ≡ true → Taken (255 ∷ k ∷ rest) a → Taken (255 ∷ kind ∷ rest) a
    at k t h = subst (λ (n : ℕ). Taken (255 ∷ n ∷ rest) a) (sym (eqb-true kind k t)) h

    by : (p q s t : Bool) → eqb kind 1 ≡ p → eqb kind 2 ≡ q → eqb kind 3 ≡ s → eqb kind 4 ≡ t
        → cond p (only HasFailed rest) (cond q (only IsTooLong rest) (cond s (only IsNoRequest rest) (cond t (only HasNoMemory rest) None))) ≡ Some a → Taken (255 ∷ kind ∷ rest) a
    by true q s t b c d f g = at 1 b (alone-taken (255 ∷ 1 ∷ []) rest HasFailed a tt refl g)
    by false true s t b c d f g = at 2 c (alone-taken (255 ∷ 2 ∷ []) rest IsTooLong a tt refl g)
    by false false true t b c d f g = at 3 d (alone-taken (255 ∷ 3 ∷ []) rest IsNoRequest a tt refl g)
    by false false false true b c d f g = at 4 f (alone-taken (255 ∷ 4 ∷ []) rest HasNoMemory a tt refl g)
    by false false false false b c d f g = absurd cc

kind_takes : (kind : ℕ) (rest : List ℕ) (a : Answer) → IsBytes rest → answer_of_kind kind rest ≡ Some a → Taken (kind ∷ rest) a
kind_takes kind rest a fits e = by (eqb kind 129) (eqb kind 130) (eqb kind 131) (eqb kind 132) (eqb kind 133) (eqb kind 255) refl refl refl refl refl refl e
  where
    at : (k : ℕ) → eqb kind k ≡ true → Taken (k ∷ rest) a → Taken (kind ∷ rest) a
    at k t h = subst (λ (n : ℕ). Taken (n ∷ rest) a) (sym (eqb-true kind k t)) h

    cloned : option_map Cloned (told_at rest) ≡ Some a → Taken (130 ∷ rest) a
    cloned f =
        let m = mapped Cloned (told_at rest) a f in
        let t = told_takes rest m.0 fits m.1 in
        subst (Taken (130 ∷ rest)) m.2 (record { is = t.is; spelled = ap (λ (l : List ℕ). 130 ∷ l) t.spelled })

    named : option_map Named (names_told_at rest) ≡ Some a → Taken (131 ∷ rest) a
    named f =
        let m = mapped Named (names_told_at rest) a f in
        let t = names_take rest m.0 fits m.1 in
        subst (Taken (131 ∷ rest)) m.2 (record { is = t.0; spelled = ap (λ (l : List ℕ). 131 ∷ l) t.1 })

    led : option_map (λ path. Led (Some path)) (way_at rest) ≡ Some a → Taken (132 ∷ rest) a
    led f =
        let m = mapped (λ (path : Path). Led (Some path)) (way_at rest) a f in
        let t = way_takes rest m.0 fits m.1 in
        subst (Taken (132 ∷ rest)) m.2 (record { is = t.0; spelled = ap (λ (l : List ℕ). 132 ∷ l) t.1 })

    by : (p q r s t u : Bool) → eqb kind 129 ≡ p → eqb kind 130 ≡ q → eqb kind 131 ≡ r → eqb kind 132 ≡ s → eqb kind 133 ≡ t → eqb kind 255 ≡ u
        → cond p (only Refreshed rest) (cond q (option_map Cloned (told_at rest)) (cond r (option_map Named (names_told_at rest)) (cond s (option_map (λ path. Led (Some path)) (way_at rest)) (cond t (only (Led None) rest) (cond u (refusal_at rest) None))))) ≡ Some a
        → Taken (kind ∷ rest) a
    by true q r s t u b c d f g h e = at 129 b (alone-taken (129 ∷ []) rest Refreshed a tt refl e)
    by false true r s t u b c d f g h e = at 130 c (cloned e)
    by false false true s t u b c d f g h e = at 131 d (named e)
    by false false false true t u b c d f g h e = at 132 f (led e)
    by false false false false true u b c d f g h e = at 133 g (alone-taken (133 ∷ []) rest (Led None) a tt refl e)
    by false false false false false true b c d f g h e = at 255 h (refusal_takes rest a e)
    by false false false false false false b c d f g h e = absurd cc

pub answer_takes : (bytes : List ℕ) (a : Answer) → IsBytes bytes → answer_at bytes ≡ Some a → Taken bytes a
unfolding answer_at
answer_takes [] a fits e = absurd cc
answer_takes (kind ∷ rest) a fits e = kind_takes kind rest a (bytes-rest kind rest fits) e

led-back : (found : Option Path) → IsToldPath found → answer_at (path_bytes found) ≡ Some (Led found)
unfolding answer_at
led-back None h = refl
led-back (Some path) h = ap (λ (o : Option Path). option_map (λ p. Led (Some p)) o) (way_back path h.0 h.1)

pub answer_again : (a : Answer) → IsAnswer a → answer_at (answer_bytes a) ≡ Some a
unfolding answer_at
answer_again Refreshed h = refl
answer_again (Cloned told) h = ap (λ (o : Option CloneData). option_map Cloned o) (told_back told h)
answer_again (Named names) h = ap (λ (o : Option (List Name)). option_map Named o) (names_back names h.0 h.1)
answer_again (Led found) h = led-back found h
answer_again HasFailed h = refl
answer_again IsTooLong h = refl
answer_again IsNoRequest h = refl
answer_again HasNoMemory h = refl

pub one-answer : (a b : Answer) → IsAnswer a → IsAnswer b → answer_bytes a ≡ answer_bytes b → a ≡ b
one-answer a b ha hb e = some_is a b (sym (answer_again a ha) ∙ ap answer_at e ∙ answer_again b hb)
