use Rattle.std.proofs.Common.{◌⊎◌, ◌≤◌, ◌<◌, ◌≡◌, true, false, []}
use Rattle.outside.specs.Parts.{HasNone}
use Rattle.outside.specs.Told.{WhereTold}
use Rattle.line_io.specs.Reading.{budget}
use Rattle.line_io.specs.Steps.{turns}
use Rattle.line_io.specs.Next.{IsReadOut}
use Rattle.line_io.proofs.NextLemmas.{Skips}
use Rattle.line_io.proofs.lines.Lines.next.Given as goal

abbrev pub invariant-turns : goal.invariant-turns
invariant-turns g l = record {
  told : WhereTold (g.S.Source.left l.fn.source) (g.S.Source.left l.source) (λ before after. Skips l.fn.self before l.self after l.is_skipping);
  out : WhereTold (g.S.Source.left l.fn.source) (g.S.Source.left l.source) (λ before after. IsReadOut l.fn.self before → IsReadOut l.self after);
  later : g.S.Source.faults l.fn.source ≤ g.S.Source.faults l.source;
  no_more : budget l.self ≤ budget l.fn.self;
  fewer : l.is_skipping ≡ true → budget l.self < budget l.fn.self;
  no_text : l.self.text ≡ [];
  first : ((l.source ≡ l.fn.source) × (l.self.held ≡ l.fn.self.held) × (l.self.ended ≡ l.fn.self.ended))
      ⊎ (HasNone 10 l.fn.self.held × (l.fn.self.ended ≡ false));
}

abbrev pub decreases-turns : goal.decreases-turns
decreases-turns g l = turns l.self
