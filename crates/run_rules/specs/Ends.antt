-- What was read and written when a run ended, and with which status.
use Rattle.std.specs.Prelude.{ℕ, ◌<◌, ◌≤◌, ◌≡◌, ◌⊎◌, false, List, [], ◌∷◌, ◌++◌, length, take, codes}
use Rattle.line_io.specs.Streams.{Streams}
use Rattle.line_io.specs.Lines.{lines_of, whole_lines, is_silent}
use Rattle.step_rules.specs.Reply.{Reply, reply_text}
use Rattle.run_rules.specs.Run.{output_of}

-- these replies were written whole
abbrev pub Wrote : Streams → List Reply → Type 0
Wrote io replies = io.now ≡ io.taken ++ output_of replies

-- the last line of a run whose disk failed
abbrev pub disk_text : List ℕ
disk_text = codes "err disk\n"

-- how a run ends
pub data End : Type 0 where
  -- all was read, and each line was answered
  Done : End
  -- more was read than the limit
  OverLimit : End
  -- the source failed, or the sink
  NoSource : End
  NoSink : End
  -- the disk failed in a call of loading, or in one of a line's commit
  NotLoaded : End
  NotStored : End
  -- the disk's bytes are no log
  NoLog : End
  -- memory was wanting before the first line
  NoMemory : End

-- the status of the program
abbrev pub status_of : End → ℕ
status_of Done = 0
status_of NotLoaded = 3
status_of NotStored = 3
status_of NoLog = 4
status_of NoSource = 5
status_of NoSink = 6
status_of NoMemory = 7
status_of OverLimit = 8

-- these replies were written whole, and then the line that tells of the disk, or a front of it where the sink failed too
abbrev pub WroteFault : Streams → Type 0 → List Reply → Type 0
WroteFault io SinkFailed replies =
    (io.now ≡ io.taken ++ output_of replies ++ disk_text)
    ⊎ (SinkFailed × (count : ℕ) × (io.now ≡ io.taken ++ output_of replies ++ take count disk_text))

-- What was read and written at each end, where these lines were executed with these replies and those are the ones behind them.
abbrev pub EndsAs : End → ℕ → Streams → Type 0 → List (List ℕ) → List (List ℕ) → List Reply → Type 0
-- each line of an input within the limit, which was read out
EndsAs Done limit io SinkFailed lines more replies =
    (length io.input ≤ limit) × (io.left ≡ []) × (lines ≡ lines_of limit io.input) × Wrote io replies
-- each line within the limit
EndsAs OverLimit limit io SinkFailed lines more replies = (limit < length io.input) × (lines ≡ lines_of limit io.input) × Wrote io replies
-- each whole line among the bytes that the source had given
EndsAs NoSource limit io SinkFailed lines more replies =
    (given : List ℕ) × (io.input ≡ given ++ io.left) × (lines ≡ whole_lines limit given) × Wrote io replies
-- of the last executed line's reply a front was written
EndsAs NoSink limit io SinkFailed lines more replies =
    (done : List (List ℕ)) × (line : List ℕ) × (whole : List Reply) × (last : Reply) × (count : ℕ)
    × (lines_of limit io.input ≡ lines ++ more) × (lines ≡ done ++ line ∷ []) × (is_silent line ≡ false)
    × (replies ≡ whole ++ last ∷ []) × (io.now ≡ io.taken ++ output_of whole ++ take count (reply_text last))
-- no line
EndsAs NotLoaded limit io SinkFailed lines more replies = (lines ≡ []) × WroteFault io SinkFailed []
-- each line before the one whose commit met the fault, which is the first one behind
EndsAs NotStored limit io SinkFailed lines more replies = (lines_of limit io.input ≡ lines ++ more) × WroteFault io SinkFailed replies
-- a disk that holds a world is never refused
EndsAs NoLog limit io SinkFailed lines more replies = ⊥
-- nothing at all
EndsAs NoMemory limit io SinkFailed lines more replies = (lines ≡ []) × (io.left ≡ io.input) × (io.now ≡ io.taken)
