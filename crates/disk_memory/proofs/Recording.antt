-- One call more in the record.
use Rattle.std.proofs.Common.{◌≡◌, inl, inr, ℕ, ◌<◌, ◌≤◌, ◌+◌, min, List, [], ◌∷◌, ◌++◌, length, take, refl, sym, ◌∙◌, ap, subst, arith, le_refl, add-one, append_assoc, take_at, Vec}
use Rattle.std.proofs.lemmas.List.{map-append, length-map, take_all}
use Rattle.disk_trait.specs.Images.{Unsynced, Told, fresh_disk, moment_of, last_moment}
use Rattle.disk_trait.specs.Calls.{after_call, overwritten, Passes, Writes, FailsToWrite, OrRefuses, Syncs}
use Rattle.disk_trait.proofs.Sound.{whole-write}
use Rattle.disk_trait.proofs.Moments.{moment-call}
use Rattle.std.specs.declared.alloc.Global.{Global}
use Rattle.disk_memory.specs.declared.call.Call.{Call}
use Rattle.disk_memory.specs.declared.call.Kind.{Kind}
use Rattle.disk_memory.specs.declared.call.Kind.TheVariants.{Write, Sync}
use Rattle.disk_memory.specs.Scenes.{Scene, History, synced_scene, written_scene, after, passes, done, replayed, history_of, scenes_of, Keeps, told_of}

abbrev pub loaded : List ℕ → History
loaded start = record { past = []; now = synced_scene start }

-- what is told goes on as the history does
told-after : (h : History) (within next : Scene) → told_of (after h within next) ≡ after_call (told_of h) within.unsynced next.unsynced next.bytes
unfolding told_of
told-after h within next =
    let make : List Unsynced → Told = λ past. record { bytes = next.bytes; past = past; now = next.unsynced } in
    ap make (map-append (λ (scene : Scene). scene.unsynced) h.past (h.now ∷ within ∷ []))

told-pass-of : (h : History) → Passes (told_of h) (told_of (after h h.now h.now))
unfolding told_of
told-pass-of h = told-after h h.now h.now

told-write-of : (h : History) (at : ℕ) (piece : List ℕ) → let next = written_scene at piece h.now in Writes at piece (told_of h) (told_of (after h next next))
unfolding told_of
told-write-of h at piece = told-after h (written_scene at piece h.now) (written_scene at piece h.now)

told-sync-of : (h : History) → Syncs (told_of h) (told_of (after h h.now (synced_scene h.now.bytes)))
unfolding told_of
told-sync-of h = told-after h h.now (synced_scene h.now.bytes)

bytes-told : (h : History) → (told_of h).bytes ≡ h.now.bytes
unfolding told_of
bytes-told h = refl

pub moment-told : (h : History) → moment_of (told_of h) ≡ length h.past
unfolding told_of
moment-told h = length-map h.past (λ (scene : Scene). scene.unsynced)

-- a call that is not recorded
history-pass : (start : List ℕ) (calls : List Call) (idle : ℕ) → let h = history_of start calls idle in history_of start calls (idle + 1) ≡ after h h.now h.now
unfolding history_of passes
history-pass start calls idle = ap (λ n. passes n (replayed (loaded start) calls)) (add-one idle)

pub told-pass : (start : List ℕ) (calls : List Call) (idle : ℕ) → Passes (told_of (history_of start calls idle)) (told_of (history_of start calls (idle + 1)))
told-pass start calls idle = ap told_of (history-pass start calls idle) ∙ told-pass-of (history_of start calls idle)

-- a call that is recorded
replayed-push : (h : History) (calls : List Call) (call : Call) → replayed h (calls ++ call ∷ []) ≡ done call.kind (passes call.idle (replayed h calls))
unfolding replayed
replayed-push h [] call = refl
replayed-push h (c ∷ calls) call = replayed-push (done c.kind (passes c.idle h)) calls call

history-push : (start : List ℕ) (calls : List Call) (call : Call) → history_of start (calls ++ call ∷ []) 0 ≡ done call.kind (history_of start calls call.idle)
unfolding history_of passes
history-push start calls call = replayed-push (loaded start) calls call

pub told-new : (start : List ℕ) → told_of (history_of start [] 0) ≡ fresh_disk start
unfolding told_of history_of passes replayed
told-new start = refl

pub told-write : (start : List ℕ) (calls later : List Call) (call : Call) (at : ℕ) (kept : Vec ℕ Global) (piece : List ℕ) → later ≡ calls ++ call ∷ [] → call.kind ≡ Write at kept → kept.items ≡ piece
    → at ≤ length (told_of (history_of start calls call.idle)).bytes → Writes at piece (told_of (history_of start calls call.idle)) (told_of (history_of start later 0))
told-write start calls later call at kept piece is kind same le =
    let h = history_of start calls call.idle in
    let place : min at (length h.now.bytes) ≡ at = (let e = ap length (bytes-told h) in omega (arith, e, le)) in
    ap (λ l. told_of (history_of start l 0)) is ∙ ap told_of (history-push start calls call ∙ ap (λ k. done k h) kind)
    ∙ ap (λ n. told_of (after h (written_scene n kept.items h.now) (written_scene n kept.items h.now))) place
    ∙ ap (λ l. told_of (after h (written_scene at l h.now) (written_scene at l h.now))) same
    ∙ told-write-of h at piece

pub told-sync : (start : List ℕ) (calls later : List Call) (call : Call) → later ≡ calls ++ call ∷ [] → call.kind ≡ Sync
    → Syncs (told_of (history_of start calls call.idle)) (told_of (history_of start later 0))
told-sync start calls later call is kind =
    let h = history_of start calls call.idle in
    ap (λ l. told_of (history_of start l 0)) is ∙ ap told_of (history-push start calls call ∙ ap (λ k. done k h) kind) ∙ told-sync-of h

-- a call later, each scene stays as it was
keeps-after : (h : History) (within next : Scene) → Keeps h (after h within next)
keeps-after h within next =
    let split : scenes_of (after h within next) ≡ scenes_of h ++ within ∷ next ∷ [] = append_assoc h.past (h.now ∷ within ∷ []) (next ∷ []) ∙ sym (append_assoc h.past (h.now ∷ []) (within ∷ next ∷ [])) in
    ap (take (length (scenes_of h))) split ∙ take_at (scenes_of h) (within ∷ next ∷ []) (length (scenes_of h)) refl

pub keeps_same : (old new : History) → new ≡ old → Keeps old new
keeps_same old new e = subst (Keeps old) (sym e) (take_all (length (scenes_of old)) (scenes_of old) (le_refl (length (scenes_of old))))

keeps-done : (kind : Kind) (h : History) → Keeps h (done kind h)
keeps-done (Write at piece) h = keeps-after h (written_scene (min at (length h.now.bytes)) piece.items h.now) (written_scene (min at (length h.now.bytes)) piece.items h.now)
keeps-done Sync h = keeps-after h h.now (synced_scene h.now.bytes)

pub keeps-pass : (start : List ℕ) (calls : List Call) (idle : ℕ) → Keeps (history_of start calls idle) (history_of start calls (idle + 1))
keeps-pass start calls idle = let h = history_of start calls idle in subst (Keeps h) (sym (history-pass start calls idle)) (keeps-after h h.now h.now)

pub keeps-push : (start : List ℕ) (calls later : List Call) (call : Call) → later ≡ calls ++ call ∷ [] → Keeps (history_of start calls call.idle) (history_of start later 0)
keeps-push start calls later call is =
    let h = history_of start calls call.idle in
    subst (Keeps h) (sym (ap (λ l. history_of start l 0) is ∙ history-push start calls call)) (keeps-done call.kind h)

-- a write of the whole range counts as one that fails
pub fails_whole : (at : ℕ) (piece : List ℕ) (old mid new : Told) → moment_of old < last_moment → at ≤ length old.bytes → Writes at piece old mid → new ≡ mid → OrRefuses (FailsToWrite at piece) old new
fails_whole at piece old mid new early le w e = inl (early, inr (overwritten old.bytes at piece, whole-write old.bytes at piece le, e ∙ w))

-- the moment, one call later
pub later : (t u : Told) (within next : Unsynced) (bytes : List ℕ) (clock : ℕ) → u ≡ after_call t within next bytes → moment_of t ≡ clock → moment_of u ≡ clock + 2
later t u within next bytes clock is time = (let a = ap moment_of is in let b = moment-call t within next bytes in omega (arith, a, b, time))
