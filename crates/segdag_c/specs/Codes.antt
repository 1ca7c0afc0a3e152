-- The codes that C is told.
use Rattle.std.specs.Prelude.{ℕ}
use Rattle.step_rules.specs.declared.Refusal.{Refusal}
use Rattle.step_rules.specs.declared.Refusal.TheVariants as why
use Rattle.segdag_c.specs.declared.codes.Failure.{Failure}
use Rattle.segdag_c.specs.declared.codes.Failure.TheVariants.{Disk, NoLog, Reply, Memory, Closed, AlreadyOpen, Argument, Syntax, Refused}

-- of a refusal
abbrev pub refusal_code : Refusal → ℕ
refusal_code why.Memory = 7
refusal_code (why.Unknown name) = 33
refusal_code (why.Twice name) = 34
refusal_code (why.Differs name) = 35
refusal_code (why.Conflict name) = 36
refusal_code (why.Lost name) = 37
refusal_code (why.InMaster name) = 38
refusal_code (why.Emptied count) = 39
refusal_code (why.Full what limit) = 40
refusal_code (why.Answer count) = 41
refusal_code (why.NotEmpty master others) = 42
refusal_code (why.Pending count) = 43
refusal_code why.NoRemote = 44
refusal_code (why.Remote count) = 45
refusal_code (why.MismatchPath name back) = 46
refusal_code (why.MismatchNames asked given) = 47
refusal_code (why.MismatchClone at) = 48
refusal_code (why.MismatchRow id) = 49

-- of a failure
abbrev pub failure_code : Failure → ℕ
failure_code Disk = 3
failure_code NoLog = 4
failure_code Reply = 6
failure_code Memory = 7
failure_code Closed = 17
failure_code AlreadyOpen = 18
failure_code Argument = 19
failure_code Syntax = 32
failure_code (Refused refusal) = refusal_code refusal
