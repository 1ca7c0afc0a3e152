-- What the lines of the example spell, and its steps.
use Rattle.std.proofs.Common.{◌≡◌, ◌^◌, inl, [], ◌∷◌, ◌++◌, codes, decimal, refl, sym, ap, lit<, lit≤, true≢false, length, arith}
use Rattle.std.specs.Fmt.{digits}
use Rattle.std.specs.List.{AllZip}
use Rattle.hex.proofs.OnLiterals.{hex_on_literals}
use Rattle.segment_codec.specs.Number.{number_bytes}
use Rattle.segment_codec.specs.Record.{segment_bytes}
use Rattle.batch_codec.specs.Payload.{payload_bytes}
use Rattle.id_groups.specs.Name.{SpellsName}
use Rattle.change_rules.specs.Standard.{standard}
use Rattle.step_rules.specs.Verb.{Add, Flush}
use Rattle.step_rules.specs.Reply.{Added, Flushed}
use Rattle.step_rules.specs.Step.{CommandStep}
use Rattle.step_rules.specs.Turns.{turns_of}
use Rattle.step_rules.specs.Isolation.{AreAlike}
use Rattle.step_rules.proofs.Plain.{command-from}
use Rattle.run_rules.specs.Grammar.{SpellsCommand}
use Rattle.worked_rows.specs.Rows.{fresh}
use Rattle.worked_rows.specs.Worlds.{n}
use Rattle.turn_laws.specs.Turned.{TurnedRun}
use Rattle.turn_laws.specs.Beside.{add_line, others_add_line, others_flush_line, after_alone, after_others_add, after_others_flush, after_beside, alone_lines, beside_lines, alone_replies, beside_replies, alone_turns, beside_turns}

numbered : codes "0" ≡ decimal 0
unfolding digits
numbered = refl

others-numbered : codes "1" ≡ decimal 1
unfolding digits
others-numbered = refl

a-spelled : SpellsName (codes "00000000000000000000000000000000000000a1") (n 0xa1)
unfolding hex_on_literals
a-spelled = (refl, refl)

b-spelled : SpellsName (codes "00000000000000000000000000000000000000b1") (n 0xb1)
unfolding hex_on_literals
b-spelled = (refl, refl)

add-spelled : SpellsCommand add_line 0 (Add (n 0xa1) [])
add-spelled = (
  codes "add 00000000000000000000000000000000000000a1",
  (lit< tt, refl),
  (lit≤ tt, (codes "00000000000000000000000000000000000000a1" ∷ [], (a-spelled, tt), refl)),
  ap (λ number. number ++ 32 ∷ codes "add 00000000000000000000000000000000000000a1") numbered,
)

others-add-spelled : SpellsCommand others_add_line 1 (Add (n 0xb1) [])
others-add-spelled = (
  codes "add 00000000000000000000000000000000000000b1",
  (lit< tt, refl),
  (lit≤ tt, (codes "00000000000000000000000000000000000000b1" ∷ [], (b-spelled, tt), refl)),
  ap (λ number. number ++ 32 ∷ codes "add 00000000000000000000000000000000000000b1") others-numbered,
)

others-flush-spelled : SpellsCommand others_flush_line 1 (Flush [])
others-flush-spelled = (codes "flush", (lit< tt, refl), ([], tt, refl), ap (λ number. number ++ 32 ∷ codes "flush") others-numbered)

add-step : CommandStep standard fresh 0 (Add (n 0xa1) []) (Added (2 ^ 56)) after_alone
unfolding payload_bytes segment_bytes number_bytes
add-step = command-from standard fresh 0 (record { stored = refl; base = refl }) (Add (n 0xa1) []) (Added (2 ^ 56)) after_alone.store tt (inl (refl, refl))

others-add-step : CommandStep standard fresh 1 (Add (n 0xb1) []) (Added (2 ^ 56)) after_others_add
unfolding payload_bytes segment_bytes number_bytes
others-add-step = command-from standard fresh 1 (record { stored = refl; base = refl }) (Add (n 0xb1) []) (Added (2 ^ 56)) after_others_add.store tt (inl (refl, refl))

others-flush-step : CommandStep standard after_others_add 1 (Flush []) (Flushed 0 1) after_others_flush
unfolding payload_bytes segment_bytes number_bytes
others-flush-step = command-from standard after_others_add 1 (record { stored = refl; base = refl }) (Flush []) (Flushed 0 1) after_others_flush.store tt (inl (refl, refl))

beside-step : CommandStep standard after_others_flush 0 (Add (n 0xa1) []) (Added (2 ^ 56)) after_beside
unfolding payload_bytes segment_bytes number_bytes
beside-step = command-from standard after_others_flush 0 (record { stored = refl; base = refl }) (Add (n 0xa1) []) (Added (2 ^ 56)) after_beside.store tt (inl (refl, refl))

pub alone-run : TurnedRun standard fresh alone_lines alone_replies after_alone alone_turns
alone-run = (Added (2 ^ 56), [], after_alone, [], refl, inl (0, Add (n 0xa1) [], add-spelled, add-step, refl), (refl, refl, refl))

pub beside-run : TurnedRun standard fresh beside_lines beside_replies after_beside beside_turns
beside-run = (
  _,
  _,
  after_others_add,
  _,
  refl,
  inl (1, Add (n 0xb1) [], others-add-spelled, others-add-step, refl),
  (
    _,
    _,
    after_others_flush,
    _,
    refl,
    inl (1, Flush [], others-flush-spelled, others-flush-step, refl),
    (_, _, after_beside, _, refl, inl (0, Add (n 0xa1) [], add-spelled, beside-step, refl), (refl, refl, refl)),
  ),
)

pub turns-alike : AllZip (AreAlike standard 0) (turns_of 0 alone_turns) (turns_of 0 beside_turns)
turns-alike = (record { verb = refl; stored = λ e. absurd (true≢false (sym e)); master = λ e none. absurd (true≢false (sym e)); own = (tt, tt) }, tt)

pub stored-differ : after_others_flush.store.stored ≡ fresh.store.stored → ⊥
stored-differ e = let k = ap (λ w. length w.others) e in omega (arith, k)
