-- Which bodies may be the answer to a request for so many names.
use Rattle.std.proofs.Common.{◌≡◌, ◌≤◌, ◌*◌, ◌⊎◌, inl, inr, ⊎_elim, ℕ, List, ◌∷◌, length, Option, Some, sym, ap, ◌∙◌, arith}
use Rattle.std.specs.Option.{option_map}
use Rattle.std.specs.Int.{w32}
use Rattle.id_groups.specs.Name.{Name}
use Rattle.segment_codec.proofs.Numbers.{IsBytes}
use Rattle.batch_codec.specs.Reading.{fixed_at, names_read}
use Rattle.batch_codec.proofs.Entries.{names-length}
use Rattle.remote_serve.specs.Answers.{Answer, Named}
use Rattle.remote_pipe.specs.Answering.{IsRefusal}
use Rattle.remote_pipe.specs.Reading.{names_told_at, answer_at}
use Rattle.remote_pipe.specs.Steps.{IsFit, IsUnfit}
use Rattle.remote_pipe.proofs.AnswerReads.{mapped}
use Rattle.remote_pipe.proofs.BodiesRead.{names-at, names-fit, names-front, named-read, named-size}

-- names, by how many there are said to be
abbrev pub AreFew : List ℕ → ℕ → Type 0
AreFew bytes most = (names : List Name) × (length names ≤ most) × (names_told_at bytes ≡ Some names)

pub few-names : (bytes rest : List ℕ) (n most : ℕ) → fixed_at w32 bytes ≡ Some (n, rest) → n ≤ most → length rest ≡ 20 * n → AreFew bytes most
few-names bytes rest n most e le len = (names_read n rest, (let size = names-length n rest in omega (arith, size, le)), named-read bytes rest n e len)

pub names-few : (bytes rest : List ℕ) (n most : ℕ) → fixed_at w32 bytes ≡ Some (n, rest) → AreFew bytes most → (n ≤ most) × (length rest ≡ 20 * n)
names-few bytes rest n most e h = let s = named-size bytes rest n h.0 e h.2 in (let a = s.0 in let b = h.1 in omega (arith, a, b), s.1)

-- a body of names
pub names-let : (body rest : List ℕ) (most : ℕ) → body ≡ 131 ∷ rest → AreFew rest most → IsFit body most
names-let body rest most e h = (Named h.0, names-at body rest e ∙ ap (λ (o : Option (List Name)). option_map Named o) h.2, λ x back. inl h.1)

pub names-barred : (body rest : List ℕ) (most : ℕ) → body ≡ 131 ∷ rest → (AreFew rest most → ⊥) → IsUnfit body most
names-barred body rest most e never = λ x back answer f either.
    let m = mapped Named (names_told_at rest) answer (sym (names-at body rest e) ∙ f) in
    never (m.0, names-fit m.0 answer x back most m.2 either, m.1)

-- another body
pub refusal-let : (body : List ℕ) (most : ℕ) → ((refusal : Answer) × IsRefusal refusal × (answer_at body ≡ Some refusal)) → IsFit body most
refusal-let body most h = (h.0, h.2, λ x back. inr h.1)

pub refusal-barred : (body : List ℕ) (most : ℕ) → IsBytes body → ((rest : List ℕ) → body ≡ 131 ∷ rest → ⊥) → ((refusal : Answer) → IsRefusal refusal → answer_at body ≡ Some refusal → ⊥) → IsUnfit body most
refusal-barred body most bytes never none = λ x back answer e either.
    ⊎_elim (λ f. (let r = names-front body answer x back most bytes e f in never r.0 r.1)) (λ is. none answer is e) either
