-- Who is at the other end, where that is told and where it isn't.
use Rattle.std.proofs.Common.{◌≡◌, ℕ, ◌≤◌, ◌<◌, ◌+◌, Bool, true, List, [], ◌∷◌, ◌++◌, length, take, drop, Option, Some, None, Result, Ok, Err, Vec, refl, sym, ap, subst, ◌∙◌, arith, append-nil, append_assoc}
use Rattle.std.specs.Prelude.{is_some, OnOk, OnErr}
use Rattle.std.specs.List.{flat_map}
use Rattle.std.specs.declared.alloc.Global.{Global}
use Rattle.std.proofs.lemmas.List.{take-append-drop, take_at, drop-drop, drop_all}
use Rattle.std.proofs.lemmas.List.Concat.{flat_map-cons}
use Rattle.std.proofs.lemmas.Grind.{common_steps, flat_map-append}
use Rattle.outside.specs.Told.{WhereTold}
use Rattle.remote_rules.specs.Mirror.{Mirror}
use Rattle.remote_serve.specs.Answers.{Answer, IsAnswerTo, frame_of}
use Rattle.remote_pipe.specs.Peer.{Peer, PutsFront, PutsWhole, PutsTo, TakesFrom}
use Rattle.remote_pipe.specs.Line.{served_by, AwaitsNothing}
use Rattle.remote_pipe.proofs.Servers.{piece-brings, short-brings}
use Rattle.link_memory.specs.declared.wrong.Wrong.{Wrong}
use Rattle.link_memory.specs.Over.{peer_over, server_of, served_over, coming_of}

-- what holds of who serves holds where it is told
pub where-served : (w : Option (ℕ × Wrong)) (P : Peer → Peer → Type 0) (m n : Mirror) (l k t u : List ℕ) → P (server_of m l t) (server_of n k u) → WhereTold (peer_over w m l t) (peer_over w n k u) P
where-served None P m n l k t u h = h
where-served (Some x) P m n l k t u h = tt

-- where something is wrong nothing is told
pub where-wrong : (w : Option (ℕ × Wrong)) (P : Peer → Peer → Type 0) (m n : Mirror) (l k t u : List ℕ) → is_some w ≡ true → WhereTold (peer_over w m l t) (peer_over w n k u) P
where-wrong None P m n l k t u h = absurd cc
where-wrong (Some x) P m n l k t u h = tt

-- whether one is served never changes
pub still-served : (w : Option (ℕ × Wrong)) (m n : Mirror) (l k t u : List ℕ) → is_some (served_by (peer_over w n k u)) ≡ is_some (served_by (peer_over w m l t))
still-served None m n l k t u = refl
still-served (Some x) m n l k t u = refl

-- it is who it was
pub same-peer : (w v : Option (ℕ × Wrong)) (m n : Mirror) (l k t u : List ℕ) → v ≡ w → n ≡ m → k ≡ l → u ≡ t → peer_over v n k u ≡ peer_over w m l t
same-peer w v m n l k t u a b c d =
    ap (λ (x : Option (ℕ × Wrong)). peer_over x n k u) a ∙ ap (λ (x : Mirror). peer_over w x k u) b
    ∙ ap (λ (x : List ℕ). peer_over w m x u) c ∙ ap (λ (x : List ℕ). peer_over w m l x) d

pub served-is : (w : Option (ℕ × Wrong)) (m : Mirror) (l t : List ℕ) → served_by (peer_over w m l t) ≡ served_over w m
served-is None m l t = refl
served-is (Some x) m l t = refl

-- where nothing is to come
pub awaits : (w : Option (ℕ × Wrong)) (m : Mirror) (l t : List ℕ) → l ≡ [] → AwaitsNothing (peer_over w m l t)
awaits None m l t e = e
awaits (Some x) m l t e = tt

-- ---- a piece that is put

-- nothing of it was
pub none-put : (piece : List ℕ) (m : Mirror) (left taken now : List ℕ) → now ≡ taken → PutsFront piece (server_of m left taken) (server_of m left now)
none-put piece m left taken now e = record { taken = (0, e ∙ sym (append-nil taken)); left = refl; mirror = refl }

-- all of it was, and isn't answered
unanswered : (piece : List ℕ) (m n : Mirror) (left taken now : List ℕ) → n ≡ m → now ≡ taken ++ piece → PutsFront piece (server_of m left taken) (server_of n left now)
unanswered piece m n left taken now same e =
    record { taken = (length piece, e ∙ ap (λ (l : List ℕ). taken ++ l) (sym (take-whole piece))); left = refl; mirror = ap (λ (k : Mirror). (let o : Option Mirror = Some k in o)) same }
  where
    take-whole : (xs : List ℕ) → take (length xs) xs ≡ xs
    take-whole [] = refl
    take-whole (x ∷ xs) = ap (λ (l : List ℕ). x ∷ l) (take-whole xs)

-- it has no frame
pub no-frame : (piece : List ℕ) (m : Mirror) (left taken now : List ℕ) → length piece < 4 → now ≡ taken ++ piece → PutsWhole piece (server_of m left taken) (server_of m left now)
no-frame piece m left taken now less e = record { taken = e; came = []; left = sym (append-nil left); brings = short-brings piece m less }

-- it has a body, which is answered behind what is to come
answered : (piece body : List ℕ) (m n : Mirror) (left later taken now : List ℕ) → body ≡ drop 4 piece → (answer : Answer) × IsAnswerTo body m n answer × (later ≡ left ++ frame_of answer) → now ≡ taken ++ piece
    → PutsWhole piece (server_of m left taken) (server_of n later now)
answered piece body m n left later taken now is a e = record { taken = e; came = frame_of a.0; left = a.2; brings = piece-brings piece body a.0 m n is a.1 }

-- the one or the other
pub put-either : {E Q : Type 0} (result : Result Unit E) (piece body : List ℕ) (m n : Mirror) (left later taken now : List ℕ) → body ≡ drop 4 piece
    → OnOk result ((answer : Answer) × IsAnswerTo body m n answer × (later ≡ left ++ frame_of answer)) → OnErr result (later ≡ left) → OnErr result Q → (Q → n ≡ m) → now ≡ taken ++ piece
    → PutsTo piece result (server_of m left taken) (server_of n later now)
put-either (Ok done) piece body m n left later taken now is a same quiet f e = answered piece body m n left later taken now is a e
put-either (Err fault) piece body m n left later taken now is a same quiet f e =
    subst (λ (l : List ℕ). PutsFront piece (server_of m left taken) (server_of n l now)) (sym same) (unanswered piece m n left taken now (f quiet) e)

-- ---- bytes that are taken

pub takes-none : {E : Type 0} (fault : E) (out : List ℕ) (m : Mirror) (left taken : List ℕ) → TakesFrom (Err fault) out (server_of m left taken) (server_of m left taken)
takes-none fault out m left taken = record { bytes = refl; taken = refl; mirror = refl }

pub takes-some : {E : Type 0} (n : ℕ) (out : List ℕ) (m : Mirror) (left now taken : List ℕ) → left ≡ take n out ++ now → (n ≡ 0 → now ≡ []) → TakesFrom {E = E} (Ok n) out (server_of m left taken) (server_of m now taken)
takes-some n out m left now taken parts end = record { bytes = (parts, λ none room. end none); taken = refl; mirror = refl }

-- what came to the front of a buffer, and what is left
pub given : (s got rest : List ℕ) (at n : ℕ) → got ≡ take n (drop at s) → at + n ≤ length s → drop at s ≡ take n (got ++ rest) ++ drop (at + n) s
given s got rest at n e fits =
    let back = drop-drop n at s in
    let len : length got ≡ n = grind (arith, common_steps, e) in
    let seam = take_at got rest n len in
    let parts = take-append-drop n (drop at s) in
    cc

-- ---- frames that are to come

-- all of the first one came
pub next-frame : (at : ℕ) (first : List ℕ) (frame : Vec ℕ Global) (later : List (Vec ℕ Global)) → length first ≤ at → coming_of 0 frame.items later ≡ coming_of at first (frame ∷ later)
next-frame at first frame later le =
    let items : Vec ℕ Global → List ℕ = λ f. f.items in
    sym (flat_map-cons items frame later) ∙ ap (λ (l : List ℕ). l ++ flat_map items (frame ∷ later)) (sym (drop_all at first le))

-- there is none
pub nothing-comes : (at : ℕ) (first : List ℕ) (later : List (Vec ℕ Global)) → length first ≤ at → later ≡ [] → coming_of at first later ≡ []
nothing-comes at first later le e =
    ap (λ (l : List (Vec ℕ Global)). coming_of at first l) e ∙ ap (λ (l : List ℕ). l ++ []) (drop_all at first le)

-- one more
pub comes-more : (at : ℕ) (first : List ℕ) (later : List (Vec ℕ Global)) (frame : Vec ℕ Global) → coming_of at first (later ++ frame ∷ []) ≡ coming_of at first later ++ frame.items
comes-more at first later frame =
    let items : Vec ℕ Global → List ℕ = λ f. f.items in
    ap (λ (l : List ℕ). drop at first ++ l) (flat_map-append items later (frame ∷ []) ∙ ap (λ (l : List ℕ). flat_map items later ++ l) (flat_map-cons items frame [] ∙ append-nil frame.items))
    ∙ sym (append_assoc (drop at first) (flat_map items later) frame.items)
