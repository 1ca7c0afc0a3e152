-- What the server answers is what comes of a mirror that is served.
use Rattle.std.proofs.Common.{◌≡◌, ◌<◌, ℕ, List, [], ◌∷◌, length, drop, Option, Some, map, refl, sym, ap, subst, ◌∙◌, arith, length-append}
use Rattle.std.specs.Prelude.{MatchOption}
use Rattle.std.specs.Int.{w32, to_be_bytes}
use Rattle.std.proofs.lemmas.List.{drop_at}
use Rattle.remote_rules.specs.Mirror.{Mirror}
use Rattle.remote_serve.specs.Frames.{frame}
use Rattle.remote_serve.specs.Requests.{Request, IsRequest, request_bytes}
use Rattle.remote_serve.specs.Answers.{Answer, IsNoRequest, LeftBy, Allows, IsAnswerTo, Answered, frame_of}
use Rattle.remote_serve.proofs.Requests.{request_again}
use Rattle.remote_pipe.specs.Peer.{Brings, BringsEach, Serves}

-- a body by its frame
body-of : (a b : List ℕ) → frame a ≡ frame b → a ≡ b
body-of a b e = sym (drop_at (to_be_bytes w32 (length a)) a 4 refl) ∙ ap (λ (l : List ℕ). drop 4 l) e ∙ drop_at (to_be_bytes w32 (length b)) b 4 refl

pub answer-serves : (request : Request) (answer : Answer) (m n : Mirror) → IsRequest request → IsAnswerTo (request_bytes request) m n answer → Serves request m n (frame_of answer)
answer-serves request answer m n is h =
    let g = subst (λ (o : Option Request). MatchOption o ((answer ≡ IsNoRequest) × (n ≡ m)) (λ r. LeftBy r m n × Allows m n r answer)) (request_again request is) h.1 in
    (g.0, answer, h.0, g.1, refl)

pub answer-brings : (body : List ℕ) (answer : Answer) (m n : Mirror) → IsAnswerTo body m n answer → Brings (frame body) (Some m) (Some n) (frame_of answer)
answer-brings body answer m n h = λ request is e.
    answer-serves request answer m n is (subst (λ (b : List ℕ). IsAnswerTo b m n answer) (body-of body (request_bytes request) e) h)

pub answers-bring : (m n : Mirror) (bodies : List (List ℕ)) (answers : List Answer) → Answered m n bodies answers → BringsEach (map frame bodies) m n (map frame_of answers)
answers-bring m n [] [] h = (h.0, refl)
answers-bring m n [] (answer ∷ answers) h = absurd cc
answers-bring m n (body ∷ bodies) [] h = absurd h
answers-bring m n (body ∷ bodies) (answer ∷ answers) h = (h.0, answer-brings body answer m h.0 h.1, answers-bring h.0 n bodies answers h.2)

-- ---- by pieces

-- a piece with this body behind its first four bytes
pub piece-brings : (piece body : List ℕ) (answer : Answer) (m n : Mirror) → body ≡ drop 4 piece → IsAnswerTo body m n answer → Brings piece (Some m) (Some n) (frame_of answer)
piece-brings piece body answer m n is h = λ request ask e.
    let same : body ≡ request_bytes request = is ∙ ap (λ (l : List ℕ). drop 4 l) e ∙ drop_at (to_be_bytes w32 (length (request_bytes request))) (request_bytes request) 4 refl in
    answer-serves request answer m n ask (subst (λ (b : List ℕ). IsAnswerTo b m n answer) same h)

-- a piece of fewer bytes has no request
pub short-brings : (piece : List ℕ) (m : Mirror) → length piece < 4 → Brings piece (Some m) (Some m) []
short-brings piece m less = λ request ask e.
    let bytes = request_bytes request in
    let len = ap (λ (l : List ℕ). length l) e ∙ length-append (to_be_bytes w32 (length bytes)) bytes in
    let four : length (to_be_bytes w32 (length bytes)) ≡ 4 = refl in
    absurd (omega (arith, len, four, less))
