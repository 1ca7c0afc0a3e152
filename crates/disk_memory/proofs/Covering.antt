-- Which call a moment lies in.
use Rattle.std.proofs.Common.{◌≡◌, ◌⊎◌, inl, inr, ℕ, zero, suc, ◌≤◌, ◌<◌, ◌+◌, ◌*◌, min, Result, Ok, Err, IfOk, List, [], ◌∷◌, ◌++◌, length, get_or, take, drop, map, refl, sym, ◌∙◌, ap, subst, arith, length-append, take-append-drop}
use Rattle.std.proofs.Math.ListN.{get_or-map}
use Rattle.std.proofs.lemmas.Bool.{cases_eq}
use Rattle.std.proofs.lemmas.List.{drop_more, take_more, take_all, map-append}
use Rattle.disk_trait.specs.Images.{Unsynced, IsImage, LeftAt, moment_of}
use Rattle.disk_trait.proofs.Moments.{front, within_call, behind_call}
use Rattle.disk_memory.specs.declared.call.Call.{Call}
use Rattle.disk_memory.specs.declared.call.Kind.{Kind}
use Rattle.disk_memory.specs.declared.call.Kind.TheVariants.{Write, Sync}
use Rattle.disk_memory.specs.declared.crash.Fill.{Fill}
use Rattle.disk_memory.specs.declared.view.View.{View}
use Rattle.disk_memory.specs.Scenes.{Scene, History, synced_scene, written_scene, after, passes, done, replayed, history_of, told_of, scene_at}
use Rattle.disk_memory.specs.Chosen.{IsChosen}
use Rattle.disk_memory.specs.Views.{Shows}
use Rattle.disk_memory.proofs.Recording.{loaded, moment-told}
use Rattle.disk_memory.proofs.Viewing.{chosen-left}

-- what is told of a moment is what its scene may lose
pub left-scene : (h : History) (moment : ℕ) (image : List ℕ) → IsImage (scene_at h moment).unsynced image → LeftAt (told_of h) moment image
unfolding told_of
left-scene h moment image is =
    let f : Scene → Unsynced = λ scene. scene.unsynced in
    let e : get_or (map f h.past ++ f h.now ∷ []) moment (f h.now) ≡ f (get_or (h.past ++ h.now ∷ []) moment h.now) =
    ap (λ l. get_or l moment (f h.now)) (sym (map-append f h.past (h.now ∷ []))) ∙ get_or-map f (h.past ++ h.now ∷ []) moment h.now in
    subst (λ u. IsImage u image) (sym e) is

pub left-chosen : (h : History) (moment : ℕ) (fill : Fill) (size : ℕ) (image : List ℕ) → IsChosen (scene_at h moment) fill size image → LeftAt (told_of h) moment image
left-chosen h moment fill size image c = left-scene h moment image (chosen-left (scene_at h moment) fill size image c)

moment-after : (h : History) (within next : Scene) → length (after h within next).past ≡ suc (suc (length h.past))
moment-after h within next = omega (arith, length-append h.past (h.now ∷ within ∷ []))

moment-passes : (n : ℕ) (h : History) → length (passes n h).past ≡ length h.past + 2 * n
unfolding passes
moment-passes zero h = omega arith
moment-passes (suc n) h = (let a = moment-after (passes n h) (passes n h).now (passes n h).now in let b = moment-passes n h in omega (arith, a, b))

moment-done : (kind : Kind) (h : History) → length (done kind h).past ≡ length h.past + 2
moment-done (Write at piece) h = (let next = written_scene (min at (length h.now.bytes)) piece.items h.now in let a = moment-after h next next in omega (arith, a))
moment-done Sync h = (let a = moment-after h h.now (synced_scene h.now.bytes) in omega (arith, a))

scene-after : (h : History) (within next : Scene) (m : ℕ) → m ≤ length h.past → scene_at (after h within next) m ≡ scene_at h m
scene-after h within next m le = front h.past h.now within next next h.now m le

scene-passes : (n : ℕ) (h : History) (m : ℕ) → m ≤ length h.past → scene_at (passes n h) m ≡ scene_at h m
unfolding passes
scene-passes zero h m le = refl
scene-passes (suc n) h m le = scene-after (passes n h) (passes n h).now (passes n h).now m (let b = moment-passes n h in omega (arith, b, le)) ∙ scene-passes n h m le

scene-done : (kind : Kind) (h : History) (m : ℕ) → m ≤ length h.past → scene_at (done kind h) m ≡ scene_at h m
scene-done (Write at piece) h m le = (let next = written_scene (min at (length h.now.bytes)) piece.items h.now in scene-after h next next m le)
scene-done Sync h m le = scene-after h h.now (synced_scene h.now.bytes) m le

moment-replayed : (h : History) (calls : List Call) → length h.past ≤ length (replayed h calls).past
unfolding replayed
moment-replayed h [] = omega arith
moment-replayed h (c ∷ calls) = (let a = moment-done c.kind (passes c.idle h) in let b = moment-passes c.idle h in let d = moment-replayed (done c.kind (passes c.idle h)) calls in omega (arith, a, b, d))

scene-replayed : (h : History) (calls : List Call) (m : ℕ) → m ≤ length h.past → scene_at (replayed h calls) m ≡ scene_at h m
unfolding replayed
scene-replayed h [] m le = refl
scene-replayed h (c ∷ calls) m le =
    let a = moment-done c.kind (passes c.idle h) in let b = moment-passes c.idle h in
    scene-replayed (done c.kind (passes c.idle h)) calls m (omega (arith, a, b, le)) ∙ scene-done c.kind (passes c.idle h) m (omega (arith, b, le)) ∙ scene-passes c.idle h m le

-- where the moment is over, it is one of those that are as now
abbrev pub Covered : ℕ → History → Type 0
Covered m h = m ≤ length h.past → scene_at h m ≡ h.now

by_moment : (m : ℕ) (h : History) (within next : Scene) → (m ≤ length h.past → scene_at h m ≡ next) → (m ≡ suc (length h.past) → within ≡ next) → Covered m (after h within next)
by_moment m h within next before inside le = pick (cases_eq m (suc (suc (length h.past)))) (cases_eq m (suc (length h.past)))
  where
    pick : (m ≡ suc (suc (length h.past))) ⊎ (m ≡ suc (suc (length h.past)) → ⊥) → (m ≡ suc (length h.past)) ⊎ (m ≡ suc (length h.past) → ⊥) → scene_at (after h within next) m ≡ next
    pick (inl last) w = ap (λ n. get_or ((h.past ++ h.now ∷ within ∷ []) ++ next ∷ []) n next) last ∙ behind_call h.past h.now within next next
    pick (inr other) (inl mid) = ap (λ n. get_or ((h.past ++ h.now ∷ within ∷ []) ++ next ∷ []) n next) mid ∙ within_call h.past h.now within next next ∙ inside mid
    pick (inr other) (inr neither) =
        let long = moment-after h within next in
        let lo : m ≤ length h.past = omega (arith, le, long, other, neither) in
        scene-after h within next m lo ∙ before lo

covered-passes : (n m : ℕ) (h : History) → Covered m h → Covered m (passes n h) × ((passes n h).now ≡ h.now)
unfolding passes
covered-passes zero m h c = (c, refl)
covered-passes (suc n) m h c = (let r = covered-passes n m h c in (by_moment m (passes n h) (passes n h).now (passes n h).now r.0 (λ e. refl), r.1))

now-passes : (n : ℕ) (h : History) → (passes n h).now ≡ h.now
unfolding passes
now-passes zero h = refl
now-passes (suc n) h = now-passes n h

covered-done : (kind : Kind) (m : ℕ) (h : History) → length h.past < m → (kind ≡ Sync → m ≡ suc (length h.past) → ⊥) → Covered m (done kind h)
covered-done (Write at piece) m h lt other = (let next = written_scene (min at (length h.now.bytes)) piece.items h.now in by_moment m h next next (λ le. absurd (omega (arith, lt, le))) (λ e. refl))
covered-done Sync m h lt other = by_moment m h h.now (synced_scene h.now.bytes) (λ le. absurd (omega (arith, lt, le))) (λ e. absurd (other refl e))

replayed-append : (h : History) (xs ys : List Call) → replayed h (xs ++ ys) ≡ replayed (replayed h xs) ys
unfolding replayed
replayed-append h [] ys = refl
replayed-append h (x ∷ xs) ys = replayed-append (done x.kind (passes x.idle h)) xs ys

-- a moment before the call that is next
scene-before : (first : History) (calls : List Call) (idle : ℕ) (done_calls rest : List Call) (call : Call) (m : ℕ) → calls ≡ done_calls ++ call ∷ rest → Covered m (replayed first done_calls) → m ≤ length (replayed first done_calls).past + 2 * call.idle
    → scene_at (passes idle (replayed first calls)) m ≡ (replayed first done_calls).now
unfolding replayed
scene-before first calls idle done_calls rest call m split cov le =
    let h = replayed first done_calls in
    let p = passes call.idle h in
    let r = covered-passes call.idle m h cov in
    let mp = moment-passes call.idle h in
    let lo : m ≤ length p.past = omega (arith, mp, le) in
    let whole : replayed first calls ≡ replayed (done call.kind p) rest = ap (replayed first) split ∙ replayed-append first done_calls (call ∷ rest) in
    let dn = moment-done call.kind p in
    let up : m ≤ length (done call.kind p).past = omega (arith, dn, lo) in
    let mr = moment-replayed (done call.kind p) rest in
    ap (λ (w : History). scene_at (passes idle w) m) whole
    ∙ scene-passes idle (replayed (done call.kind p) rest) m (omega (arith, mr, up)) ∙ scene-replayed (done call.kind p) rest m up ∙ scene-done call.kind p m lo ∙ r.0 lo ∙ r.1

-- a moment within a sync
scene-within : (first : History) (calls : List Call) (idle : ℕ) (done_calls rest : List Call) (call : Call) (m : ℕ) → calls ≡ done_calls ++ call ∷ rest → call.kind ≡ Sync → m ≡ length (replayed first done_calls).past + 2 * call.idle + 1
    → scene_at (passes idle (replayed first calls)) m ≡ (replayed first done_calls).now
unfolding replayed
scene-within first calls idle done_calls rest call m split kind is_m =
    let h = replayed first done_calls in
    let p = passes call.idle h in
    let mp = moment-passes call.idle h in
    let whole : replayed first calls ≡ replayed (done Sync p) rest = ap (replayed first) split ∙ replayed-append first done_calls (call ∷ rest) ∙ ap (λ k. replayed (done k p) rest) kind in
    let dn = moment-done Sync p in
    let up : m ≤ length (done Sync p).past = omega (arith, dn, mp, is_m) in
    let mr = moment-replayed (done Sync p) rest in
    let at : m ≡ suc (length p.past) = omega (arith, mp, is_m) in
    let next = synced_scene p.now.bytes in
    ap (λ (w : History). scene_at (passes idle w) m) whole
    ∙ scene-passes idle (replayed (done Sync p) rest) m (omega (arith, mr, up)) ∙ scene-replayed (done Sync p) rest m up
    ∙ ap (λ n. get_or ((p.past ++ p.now ∷ p.now ∷ []) ++ next ∷ []) n next) at
    ∙ within_call p.past p.now p.now next next ∙ now-passes call.idle h

record AtFor (h : History) (moment clock : ℕ) (view : View) : Type 0 where
  pub state : Shows h.now view
  pub clock_is : clock ≡ length h.past
  pub covered : Covered moment h

-- the calls up to this one are replayed
pub record AtCall (start : List ℕ) (calls : List Call) (i clock moment : ℕ) (view : View) : Type 0 where
  pub state : Shows (replayed (loaded start) (take i calls)).now view
  pub clock_is : clock ≡ length (replayed (loaded start) (take i calls)).past
  pub covered : Covered moment (replayed (loaded start) (take i calls))

pub at_first : (start : List ℕ) (calls : List Call) (moment : ℕ) (view : View) → Shows (synced_scene start) view → AtCall start calls 0 0 moment view
unfolding replayed
at_first start calls moment view s = record { state = s; clock_is = refl; covered = λ le. zero_entry moment le }
  where
    zero_entry : (m : ℕ) → m ≤ 0 → scene_at (loaded start) m ≡ (loaded start).now
    zero_entry zero le = refl
    zero_entry (suc m) le = absurd (omega (arith, le))

split_at : (calls : List Call) (i : ℕ) (call : Call) → i < length calls → call ≡ get_or calls i call → calls ≡ take i calls ++ call ∷ drop (i + 1) calls
split_at calls i call lt is = sym (take-append-drop i calls) ∙ ap (λ l. take i calls ++ l) (drop_more calls i call lt ∙ ap (λ x. x ∷ drop (i + 1) calls) (sym is))

pub at_next : (start : List ℕ) (calls : List Call) (i clock moment : ℕ) (call : Call) (view next : View) → AtCall start calls i clock moment view → i < length calls → call ≡ get_or calls i call
    → clock + 2 * call.idle < moment → (call.kind ≡ Sync → moment ≡ clock + 2 * call.idle + 1 → ⊥)
    → ((h : History) → Shows h.now view → Shows (done call.kind h).now next)
    → AtCall start calls (i + 1) (clock + 2 * call.idle + 2) moment next
unfolding replayed
at_next start calls i clock moment call view next a lt is past apart shows =
    let first = loaded start in
    let h = replayed first (take i calls) in
    let p = passes call.idle h in
    let more : take (i + 1) calls ≡ take i calls ++ call ∷ [] = take_more calls i call lt ∙ ap (λ x. take i calls ++ x ∷ []) (sym is) in
    let whole : replayed first (take (i + 1) calls) ≡ done call.kind p = ap (replayed first) more ∙ replayed-append first (take i calls) (call ∷ []) in
    let mp = moment-passes call.idle h in
    let c = a.clock_is in
    subst (λ (w : History). AtFor w moment (clock + 2 * call.idle + 2) next → AtCall start calls (i + 1) (clock + 2 * call.idle + 2) moment next) whole
    (λ f. record { state = f.state; clock_is = f.clock_is; covered = f.covered })
    (record {
      state = shows p (subst (λ s. Shows s view) (sym (now-passes call.idle h)) a.state);
      clock_is = (let d = moment-done call.kind p in omega (arith, d, mp, c));
      covered = covered-done call.kind moment p (omega (arith, mp, c, past)) (λ k e. apart k (omega (arith, e, mp, c)));
    })

-- the image of the view, before the next call
pub exit_before : (start : List ℕ) (calls : List Call) (idle i clock moment : ℕ) (call : Call) (view : View) (fill : Fill) (size : ℕ) (image : List ℕ) → AtCall start calls i clock moment view → i < length calls → call ≡ get_or calls i call
    → moment ≤ clock + 2 * call.idle → ((scene : Scene) → Shows scene view → IsChosen scene fill size image) → IsChosen (scene_at (history_of start calls idle) moment) fill size image
unfolding history_of
exit_before start calls idle i clock moment call view fill size image a lt is le made =
    subst (λ s. IsChosen s fill size image)
    (sym (scene-before (loaded start) calls idle (take i calls) (drop (i + 1) calls) call moment (split_at calls i call lt is) a.covered (let c = a.clock_is in omega (arith, c, le))))
    (made _ a.state)

-- within a sync
pub exit_within : (start : List ℕ) (calls : List Call) (idle i clock moment : ℕ) (call : Call) (view : View) (fill : Fill) (size : ℕ) (image : List ℕ) → AtCall start calls i clock moment view → i < length calls → call ≡ get_or calls i call
    → call.kind ≡ Sync → moment ≡ clock + 2 * call.idle + 1 → ((scene : Scene) → Shows scene view → IsChosen scene fill size image) → IsChosen (scene_at (history_of start calls idle) moment) fill size image
unfolding history_of
exit_within start calls idle i clock moment call view fill size image a lt is kind same made =
    subst (λ s. IsChosen s fill size image)
    (sym (scene-within (loaded start) calls idle (take i calls) (drop (i + 1) calls) call moment (split_at calls i call lt is) kind (let c = a.clock_is in omega (arith, c, same))))
    (made _ a.state)

-- or behind all of them
pub exit_behind : (start : List ℕ) (calls : List Call) (idle i clock moment : ℕ) (view : View) (fill : Fill) (size : ℕ) (image : List ℕ) → AtCall start calls i clock moment view → length calls ≤ i
    → moment ≤ moment_of (told_of (history_of start calls idle)) → ((scene : Scene) → Shows scene view → IsChosen scene fill size image) → IsChosen (scene_at (history_of start calls idle) moment) fill size image
unfolding history_of
exit_behind start calls idle i clock moment view fill size image a end le made =
    let first = loaded start in
    let h = replayed first (take i calls) in
    let all : take i calls ≡ calls = take_all i calls end in
    let r = covered-passes idle moment h a.covered in
    let lo : moment ≤ length (passes idle h).past = subst (λ l. moment ≤ length (passes idle (replayed first l)).past) (sym all) (let m = moment-told (passes idle (replayed first calls)) in omega (arith, m, le)) in
    subst (λ l. IsChosen (scene_at (passes idle (replayed first l)) moment) fill size image) all (subst (λ s. IsChosen s fill size image) (sym (r.0 lo ∙ r.1)) (made h.now a.state))

-- the moments up to a call are no more than all
pub few_moments : (start : List ℕ) (calls : List Call) (idle i clock moment : ℕ) (call : Call) (view : View) → AtCall start calls i clock moment view → i < length calls → call ≡ get_or calls i call
    → clock + 2 * call.idle + 2 ≤ moment_of (told_of (history_of start calls idle))
unfolding history_of replayed
few_moments start calls idle i clock moment call view a lt is =
    let first = loaded start in
    let h = replayed first (take i calls) in
    let p = passes call.idle h in
    let rest = drop (i + 1) calls in
    let whole : replayed first calls ≡ replayed (done call.kind p) rest = ap (replayed first) (split_at calls i call lt is) ∙ replayed-append first (take i calls) (call ∷ rest) in
    let w = ap (λ (x : History). length x.past) whole in
    let b = moment-passes idle (replayed first calls) in
    let d = moment-replayed (done call.kind p) rest in
    let e = moment-done call.kind p in
    let f = moment-passes call.idle h in
    let c = a.clock_is in
    let m = moment-told (passes idle (replayed first calls)) in
    omega (arith, w, b, d, e, f, c, m)

pub if_ok : {T E : Type 0} (r : Result T E) (P Q : T → Type 0) → ((x : T) → P x → Q x) → IfOk r P → IfOk r Q
if_ok (Ok x) P Q f h = f x h
if_ok (Err e) P Q f h = tt
