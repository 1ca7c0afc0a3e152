use Rattle.std.proofs.Common.{inl, refl}
use Rattle.change_rules.specs.Standard.{standard}
use Rattle.segment_codec.specs.Number.{number_bytes}
use Rattle.segment_codec.specs.Record.{segment_bytes}
use Rattle.batch_codec.specs.Payload.{payload_bytes}
use Rattle.worked_rows.proofs.Plainly.{plainly}
use Rattle.worked_rows.specs.Rows.{fresh, a_small_graph_said}
use Rattle.worked_rows.proofs.a_small_graph.Goals as goal

pub returns : goal.returns
unfolding payload_bytes segment_bytes number_bytes
returns c = plainly standard fresh a_small_graph_said (
  _,
  inl (refl, refl),
  tt,
  record { stored = refl; base = refl },
  (
    _,
    inl (refl, refl),
    tt,
    record { stored = refl; base = refl },
    (
      _,
      inl (refl, refl),
      tt,
      record { stored = refl; base = refl },
      (
        _,
        inl (refl, refl),
        tt,
        record { stored = refl; base = refl },
        (
          _,
          inl (refl, refl),
          tt,
          record { stored = refl; base = refl },
          (
            _,
            inl (refl, refl),
            tt,
            record { stored = refl; base = refl },
            (
              _,
              inl (refl, refl),
              tt,
              record { stored = refl; base = refl },
              (
                _,
                inl (refl, refl),
                tt,
                record { stored = refl; base = refl },
                tt,
              ),
            ),
          ),
        ),
      ),
    ),
  ),
)
