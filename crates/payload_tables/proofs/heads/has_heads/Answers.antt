use Rattle.std.proofs.Common.{◌≡◌, ◌∙◌, ap, sym}
use Rattle.std.proofs.lemmas.Slice.Eq.{slice_eq-Decides}
use Rattle.std.proofs.lemmas.Bool.Decides.{Decides-eqb}
use Rattle.batch_codec.specs.Payload.{names_bytes}
use Rattle.batch_codec.specs.Grammar.{cloned_head_names}
use Rattle.batch_codec.specs.Lent.{payload_of}
use Rattle.batch_codec.proofs.Entries.{names-spelled}
use Rattle.payload_tables.proofs.Heading.{same-names, head-names-whole}
use Rattle.payload_tables.proofs.heads.has_heads.Goals as goal

pub returns : goal.returns
returns c =
    let p = payload_of c.args.batch.now in let h = c.is_payload.ensures.payload in
    let spelled : names_bytes p.heads ≡ c.bytes.result.now =
    sym (ap names_bytes c.heads-heads.ensures.names) ∙ names-spelled c.heads-heads.result.count c.heads-heads.result.bytes.now c.heads-heads.result.size ∙ sym c.bytes.ensures.bytes in
    let expected : c.as_slice.result.now ≡ names_bytes (cloned_head_names p) = c.as_slice.ensures.value ∙ c.in_ok-expected.ensures in
    let decides = slice_eq-Decides Decides-eqb _ _ _ c.eq.ensures in (
      λ t. same-names p.heads (cloned_head_names p) h.head_names (head-names-whole p h) (spelled ∙ sym (decides.0 t) ∙ expected),
      λ e. decides.1 (expected ∙ sym (ap names_bytes e) ∙ spelled),
    )
