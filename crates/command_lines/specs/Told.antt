-- What a reply of the code tells.
use Rattle.std.specs.Prelude.{ℕ, List, codes}
use Rattle.step_rules.specs.Reply.{Reply, Added, Old, Flushed, Pulled, Stripped, Cloned, Reloaded, Discarded, Counted, Identified, Sizes, LevelSizes, Dropped, Refused, NoCommand, LongLine}
use Rattle.command_lines.specs.declared.reply.Reply.{Reply as Given}
use Rattle.command_lines.specs.declared.reply.Reply.TheVariants as given

-- the same ids, numbers and refusals; of the world that was stored the sizes of its groups
abbrev pub told : Given → Reply
told (given.Added id) = Added id
told (given.Old id) = Old id
told (given.Flushed counts) = Flushed counts.master counts.others
told (given.Pulled counts) = Pulled counts.master counts.others
told (given.Stripped counts) = Stripped counts.master counts.others
told (given.Cloned count) = Cloned count
told (given.Reloaded count) = Reloaded count
told (given.Discarded count) = Discarded count
told (given.Counted count) = Counted count
told (given.Identified id) = Identified id
told (given.Sizes counts) = Sizes counts.master counts.others counts.pending
told (given.LevelSizes counts) = LevelSizes counts
told (given.Dropped count) = Dropped count
told (given.Refused refusal) = Refused refusal
told given.NoCommand = NoCommand
told given.LongLine = LongLine

-- the words that its line begins with
abbrev pub reply_head : Given → List ℕ
reply_head (given.Added id) = codes "ok added"
reply_head (given.Old id) = codes "ok old"
reply_head (given.Flushed counts) = codes "ok flushed"
reply_head (given.Pulled counts) = codes "ok pulled"
reply_head (given.Stripped counts) = codes "ok stripped"
reply_head (given.Cloned count) = codes "ok cloned"
reply_head (given.Reloaded count) = codes "ok reloaded"
reply_head (given.Discarded count) = codes "ok discarded"
reply_head (given.Dropped count) = codes "ok dropped"
reply_head (given.Refused refusal) = codes "err"
reply_head given.NoCommand = codes "err syntax"
reply_head given.LongLine = codes "err line 16384"
reply_head _ = codes "ok"
