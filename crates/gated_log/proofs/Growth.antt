-- What was read of a log that grows meanwhile, from its front on.
use Rattle.std.proofs.Common.{◌≡◌, ◌≢◌, ◌<◌, ◌≤◌, ◌⊎◌, inl, inr, ⊎_elim, ◌+◌, ℕ, zero, suc, List, [], ◌∷◌, ◌++◌, length, take, drop, get_or, refl, sym, ap, ◌∙◌, arith, append_assoc, length-append, take-append-drop, lit<}
use Rattle.std.proofs.Math.Seq.{get_or-append_seam, take-suc}
use Rattle.std.proofs.lemmas.List.{get_or_append_left, drop_more, take_all, take-append-le}
use Rattle.std.specs.List.{AllByRecursion}
use Rattle.disk_trait.specs.Meanwhile.{IsBetween, AreRead}
use Rattle.gated_log.specs.Log.{IsLog, IsDamaged, batch, batches, HasLength}
use Rattle.gated_log.specs.Growing.{IsGrowing, AreOfMoment}
use Rattle.gated_log.proofs.Reading.{one-log}
use Rattle.gated_log.proofs.Damage.{log-or-damaged, below-or-not}

pub batches-append : (ps qs : List (List ℕ)) → batches (ps ++ qs) ≡ batches ps ++ batches qs
batches-append [] qs = refl
batches-append (p ∷ ps) qs = ap (λ l. batch p ++ l) (batches-append ps qs) ∙ sym (append_assoc (batch p) (batches ps) (batches qs))

module _ (film : ℕ → List ℕ) (payloads : ℕ → List (List ℕ)) (from : ℕ) (g : IsGrowing film payloads from) where
  -- a moment's bytes, where there are two or more
  pub record IsFrame (moment : ℕ) : Type 0 where
    pub lengths : AllByRecursion HasLength (payloads moment)
    pub gate : ℕ
    pub behind : List ℕ
    pub closed : gate ≢ 1
    pub whole : film moment ≡ batches (payloads moment) ++ gate ∷ behind

  pub frame : (start moment : ℕ) → from ≤ start → 2 ≤ length (film start) → start ≤ moment → IsFrame moment
  frame start moment first two le = by_log (g.is_log moment (omega (arith, first, le)))
    where
      by_log : IsLog (film moment) (payloads moment) → IsFrame moment
      by_log (inl h) = (let n = g.no_shorter start moment first le in let m = h.0 in absurd (omega (arith, n, m, two)))
      by_log (inr h) = record { lengths = h.1; gate = h.2; behind = h.3; closed = h.4; whole = h.5 }

  -- a later moment's batches stand behind those of an earlier one
  pub more-batches : (m n : ℕ) → from ≤ m → m ≤ n → (behind : List ℕ) × (batches (payloads n) ≡ batches (payloads m) ++ behind)
  more-batches m n first le = (let s = g.grows m n first le in (batches s.0, ap batches s.1 ∙ batches-append (payloads m) s.0))

  pub no-fewer : (m n : ℕ) → from ≤ m → m ≤ n → length (batches (payloads m)) ≤ length (batches (payloads n))
  no-fewer m n first le = (let s = more-batches m n first le in let e = ap length s.1 in let k = length-append (batches (payloads m)) s.0 in omega (arith, e, k))

  pub no-fewer-payloads : (m n : ℕ) → from ≤ m → m ≤ n → length (payloads m) ≤ length (payloads n)
  no-fewer-payloads m n first le = (let s = g.grows m n first le in let e = ap length s.1 in let k = length-append (payloads m) s.0 in omega (arith, e, k))

  -- longer batches are those of more payloads
  pub one-more : (m n : ℕ) → from ≤ m → from ≤ n → length (batches (payloads m)) < length (batches (payloads n)) → length (payloads m) + 1 ≤ length (payloads n)
  one-more m n first other lt =
      ⊎_elim (λ less. (let s = g.grows m n first (omega (arith, less)) in behind s.0 s.1)) (λ le. (let k = no-fewer n m other le in absurd (omega (arith, k, lt)))) (below-or-not m n)
    where
      behind : (rest : List (List ℕ)) → payloads n ≡ payloads m ++ rest → length (payloads m) + 1 ≤ length (payloads n)
      behind [] e = (let k = ap (λ ps. length (batches ps)) e in let j = ap length (batches-append (payloads m) []) in let i = length-append (batches (payloads m)) [] in absurd (omega (arith, k, j, i, lt)))
      behind (r ∷ rest) e = (let k = ap length e in let j = length-append (payloads m) (r ∷ rest) in omega (arith, k, j))

  module _ (start to : ℕ) (first : from ≤ start) (two : 2 ≤ length (film start)) (bytes : List ℕ) (r : AreRead film start to 0 bytes) where
    -- the bytes are the log of some moment meanwhile
    pub record IsHere : Type 0 where
      pub moment : ℕ
      pub between : IsBetween start to moment
      pub gate : ℕ
      pub behind : List ℕ
      pub closed : gate ≢ 1
      pub whole : bytes ≡ batches (payloads moment) ++ gate ∷ behind

    -- so many bytes are the front of the batches of some moment, which isn't behind that of the next byte
    pub record IsFront (n : ℕ) : Type 0 where
      pub moment : ℕ
      pub since : start ≤ moment
      pub until : moment ≤ r.when n
      pub short : n ≤ length (batches (payloads moment))
      pub same : take n bytes ≡ take n (batches (payloads moment))

    one-byte : (n : ℕ) → n < length bytes → IsFront n → IsHere ⊎ IsFront (suc n)
    one-byte n inside f =
        ⊎_elim going ending (below-or-not n (length (batches (payloads m))))
      where
        m : ℕ
        m = r.when n

        w : IsFrame m
        w = frame start m first two (r.between n).0

        grown : (behind : List ℕ) × (batches (payloads m) ≡ batches (payloads f.moment) ++ behind)
        grown = more-batches f.moment m (let s = f.since in omega (arith, s, first)) f.until

        short : n ≤ length (batches (payloads m))
        short = (let k = no-fewer f.moment m (let s = f.since in omega (arith, s, first)) f.until in let s = f.short in omega (arith, k, s))

        front : take n bytes ≡ take n (batches (payloads m))
        front = f.same ∙ sym (take-append-le n (batches (payloads f.moment)) grown.0 f.short) ∙ ap (take n) (sym grown.1)

        byte : get_or bytes n 0 ≡ get_or (batches (payloads m) ++ w.gate ∷ w.behind) n 0
        byte = r.stood n inside ∙ ap (λ k. get_or (film m) k 0) (let e : 0 + n ≡ n = omega arith in e) ∙ ap (λ l. get_or l n 0) w.whole

        going : n < length (batches (payloads m)) → IsHere ⊎ IsFront (suc n)
        going lt = inr (record {
          moment = m;
          since = (r.between n).0;
          until = r.in_order n (suc n) (omega arith);
          short = omega (arith, lt);
          same = take-suc bytes n 0 inside ∙ ap (λ l. l ++ get_or bytes n 0 ∷ []) front
              ∙ ap (λ b. take n (batches (payloads m)) ++ b ∷ []) (byte ∙ get_or_append_left (batches (payloads m)) (w.gate ∷ w.behind) 0 n lt)
              ∙ sym (take-suc (batches (payloads m)) n 0 lt);
        })

        ending : length (batches (payloads m)) ≤ n → IsHere ⊎ IsFront (suc n)
        ending le =
            let here : n ≡ length (batches (payloads m)) = omega (arith, le, short) in
            let is_gate : get_or bytes n 0 ≡ w.gate = byte ∙ ap (λ k. get_or (batches (payloads m) ++ w.gate ∷ w.behind) k 0) here ∙ get_or-append_seam (batches (payloads m)) w.gate w.behind 0 in
            inl (record {
              moment = m;
              between = r.between n;
              gate = w.gate;
              behind = drop (n + 1) bytes;
              closed = w.closed;
              whole = sym (take-append-drop n bytes) ∙ ap (λ l. l ++ drop n bytes) (front ∙ take_all n (batches (payloads m)) le)
                  ∙ ap (λ l. batches (payloads m) ++ l) (drop_more bytes n 0 inside ∙ ap (λ b. b ∷ drop (n + 1) bytes) is_gate);
            })

    front-of : (n : ℕ) → n ≤ length bytes → IsHere ⊎ IsFront n
    front-of zero le = inr (record { moment = start; since = omega arith; until = (r.between 0).0; short = omega arith; same = refl })
    front-of (suc n) le = ⊎_elim (λ here. inl here) (λ f. one-byte n (omega (arith, le)) f) (front-of n (omega (arith, le)))

    -- they are the log of some moment, or no gate in them is closed
    pub read-so : IsHere ⊎ IsFront (length bytes)
    read-so = front-of (length bytes) (omega arith)

    here-log : (h : IsHere) → 2 ≤ length bytes → IsLog bytes (payloads h.moment)
    here-log h many = inr (many, (frame start h.moment first two h.between.0).lengths, h.gate, h.behind, h.closed, h.whole)

    -- a front of batches is no log
    no-log : (ps : List (List ℕ)) → IsFront (length bytes) → 2 ≤ length bytes → IsLog bytes ps → ⊥
    no-log ps f many (inl h) = (let k = h.0 in absurd (omega (arith, k, many)))
    no-log ps f many (inr h) =
        let all = batches (payloads f.moment) in
        let split : all ≡ bytes ++ drop (length bytes) all =
        sym (take-append-drop (length bytes) all) ∙ ap (λ l. l ++ drop (length bytes) all) (sym f.same ∙ take_all (length bytes) bytes (omega arith)) in
        let longer = all ++ 1 ∷ [] in
        let size : 2 ≤ length longer = (let k = length-append all (1 ∷ []) in let s = f.short in omega (arith, k, s, many)) in
        let as-log : IsLog longer ps = inr (
          size,
          h.1,
          h.2,
          h.3 ++ (drop (length bytes) all ++ 1 ∷ []),
          h.4,
          ap (λ l. l ++ 1 ∷ []) split ∙ append_assoc bytes (drop (length bytes) all) (1 ∷ []) ∙ ap (λ l. l ++ (drop (length bytes) all ++ 1 ∷ [])) h.5
              ∙ append_assoc (batches ps) (h.2 ∷ h.3) (drop (length bytes) all ++ 1 ∷ []),
        ) in
        log-or-damaged longer ps (length all) as-log (size, payloads f.moment, [], (frame start f.moment first two f.since).lengths, refl, refl, inl (lit< tt))

    -- a log that was read is that of some moment
    pub log-of-moment : (ps : List (List ℕ)) → 2 ≤ length bytes → IsLog bytes ps → AreOfMoment payloads start to ps
    log-of-moment ps many is = ⊎_elim (λ h. (h.moment, h.between, one-log bytes ps (payloads h.moment) is (here-log h many))) (λ f. absurd (no-log ps f many is)) read-so

    -- damage that was read is a front of the batches of some moment
    pub damage-of-moment : (at : ℕ) → IsDamaged bytes at → (moment : ℕ) × IsBetween start to moment × (length bytes ≤ length (batches (payloads moment)))
    damage-of-moment at d =
        ⊎_elim (λ h. absurd (log-or-damaged bytes (payloads h.moment) at (here-log h d.0) d))
        (λ f. (f.moment, (f.since, (let u = f.until in let b = (r.between (length bytes)).1 in omega (arith, u, b))), f.short)) read-so
