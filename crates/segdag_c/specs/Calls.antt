-- What comes of typed calls of an open log.
use Rattle.std.specs.Prelude.{◌≡◌, ◌≤◌, ◌<◌, ◌-◌, ◌%◌, ◌++◌, ◌⊎◌, ⊤, ℕ, length, min, take, drop, List, None, Result, Ok, Err, MatchOption}
use Rattle.std.specs.List.{concat}
use Rattle.id_groups.specs.Name.{Name}
use Rattle.set_expr.specs.Expr.{Expr}
use Rattle.set_expr.specs.Spelling.{SpellsExpr}
use Rattle.store_queries.specs.declared.adding.Added.{Added}
use Rattle.step_rules.specs.Verb.{Verb, Add, Count, Discard, IdOf, Query, Reload, Status}
use Rattle.step_rules.specs.Reply.{Reply, Counted, Discarded, Identified, Listed, Refused as IsRefused, Reloaded, Sizes}
use Rattle.dag_store.specs.Steps.{add_reply}
use Rattle.dag_store.specs.declared.replies.Counts.{Counts}
use Rattle.segdag_c.specs.declared.codes.Failure.{Failure}
use Rattle.segdag_c.specs.declared.codes.Failure.TheVariants.{Argument, Disk, Memory, Refused, Syntax}
use Rattle.segdag_c.specs.declared.held.Held.{Held}
use Rattle.segdag_c.specs.Does.{Does}
use Rattle.segdag_c.specs.Handles.{IsSame}
use Rattle.segdag_c.specs.Mirrors.{shown_all}
use Rattle.segdag_c.specs.Names.{AreJoined}

-- the names of an answer are kept, one behind the other; any other reply leaves those of the last one
abbrev pub KeepsNames : Reply → Held → Held → Type 0
KeepsNames (Listed names) before after = concat names ≡ after.names.items
KeepsNames reply before after = after.names ≡ before.names

-- The command's step with this reply, of an open log beside its mirrors, that has its store before and behind it. The calls that are to be
-- performed and the last line's reply stay.
abbrev pub HeldDoes : Held → Held → ℕ → Verb → Reply → Type 0
HeldDoes before after s verb reply =
    (s < 16) × (after.log ≡ before.log) × (after.reply ≡ before.reply) × KeepsNames reply before after
    × MatchOption before.store ⊥ (λ old. MatchOption after.store ⊥ (λ new.
    Does (shown_all before.mirrors.list.items) old s verb reply new (shown_all after.mirrors.list.items)))

-- the step of the command of an expression that the text spells
abbrev pub HeldDoesOf : Held → Held → ℕ → List ℕ → (Expr Name → Verb) → Reply → Type 0
HeldDoesOf before after s text verb reply = (e : Expr Name) × SpellsExpr text e × HeldDoes before after s (verb e) reply

-- an add's step, of a commit with the parents whose names these bytes are
abbrev pub HeldAdds : Held → Held → ℕ → Name → List ℕ → Reply → Type 0
HeldAdds before after s name bytes reply = (parents : List Name) × AreJoined parents bytes × HeldDoes before after s (Add name parents) reply

-- Why the store isn't asked though it is there: an argument is wrong, the text is no expression, or there is no memory.
abbrev pub IsUntried : Type 0 → Type 0 → Failure → Type 0
IsUntried Wrong Unspelled Argument = Wrong
IsUntried Wrong Unspelled Syntax = Unspelled
IsUntried Wrong Unspelled Memory = ⊤
IsUntried Wrong Unspelled failure = ⊥

-- the same of a call that takes no memory of its own
abbrev pub IsWrong : Type 0 → Failure → Type 0
IsWrong Wrong Argument = Wrong
IsWrong Wrong failure = ⊥

-- What comes of a typed call: its command's step, with a reply of which this is told, or with a refusal; 3 where the store is gone, and nowhere
-- else; or else it isn't tried. But for the step all stays as it was.
abbrev pub Comes : {X : Type 0} → (Reply → Type 0) → (X → (Reply → Type 0) → Type 0) → (Failure → Type 0) → Held → Held → Result X Failure → Type 0
Comes Steps Told Untried before after (Ok x) = Told x Steps
Comes Steps Told Untried before after (Err (Refused refusal)) = Steps (IsRefused refusal)
Comes Steps Told Untried before after (Err Disk) = (before.store ≡ None) × IsSame before after
Comes Steps Told Untried before after (Err failure) = Untried failure × IsSame before after

-- which replies these are
abbrev pub TellsBy : {X : Type 0} → (X → Reply) → X → (Reply → Type 0) → Type 0
TellsBy told x Steps = Steps (told x)

abbrev pub TellsNames : ℕ → (Reply → Type 0) → Type 0
TellsNames size Steps = (names : List Name) × (size ≡ length (concat names)) × Steps (Listed names)

abbrev pub sizes_reply : Counts → Reply
sizes_reply counts = Sizes counts.master counts.others counts.pending

-- no session; bytes that are no names of parents; a text that is no expression
abbrev pub IsNoSession : ℕ → Type 0
IsNoSession s = 16 ≤ s

abbrev pub AreNoParents : List ℕ → Type 0
AreNoParents bytes = (160 < length bytes) ⊎ (length bytes % 20 ≡ 0 → ⊥)

abbrev pub IsNoExpr : List ℕ → Type 0
IsNoExpr text = (e : Expr Name) → SpellsExpr text e → ⊥

-- ---- what comes of each

abbrev pub AddStepCame : ℕ → Name → List Name → Held → Held → Result Added Failure → Type 0
AddStepCame s name parents before after answer =
    Comes (HeldDoes before after s (Add name parents)) (TellsBy (λ (added : Added). add_reply (Ok added))) (IsWrong (IsNoSession s)) before after answer

abbrev pub AddCame : ℕ → Name → List ℕ → Held → Held → Result Added Failure → Type 0
AddCame s name bytes before after answer =
    Comes (HeldAdds before after s name bytes) (TellsBy (λ (added : Added). add_reply (Ok added))) (IsUntried (IsNoSession s ⊎ AreNoParents bytes) ⊥) before after answer

abbrev pub IdCame : ℕ → Name → Held → Held → Result ℕ Failure → Type 0
IdCame s name before after answer = Comes (HeldDoes before after s (IdOf name)) (TellsBy Identified) (IsWrong (IsNoSession s)) before after answer

abbrev pub CountCame : ℕ → Expr Name → Held → Held → Result ℕ Failure → Type 0
CountCame s e before after answer = Comes (HeldDoes before after s (Count e)) (TellsBy Counted) (IsUntried (IsNoSession s) ⊥) before after answer

abbrev pub TextCountCame : ℕ → List ℕ → Held → Held → Result ℕ Failure → Type 0
TextCountCame s text before after answer = Comes (HeldDoesOf before after s text Count) (TellsBy Counted) (IsUntried (IsNoSession s) (IsNoExpr text)) before after answer

abbrev pub QueryCame : ℕ → Expr Name → Held → Held → Result ℕ Failure → Type 0
QueryCame s e before after answer = Comes (HeldDoes before after s (Query e)) TellsNames (IsUntried (IsNoSession s) ⊥) before after answer

abbrev pub TextQueryCame : ℕ → List ℕ → Held → Held → Result ℕ Failure → Type 0
TextQueryCame s text before after answer = Comes (HeldDoesOf before after s text Query) TellsNames (IsUntried (IsNoSession s) (IsNoExpr text)) before after answer

abbrev pub PlaceCame : ℕ → ℕ → Expr Name → Held → Held → Result ℕ Failure → Type 0
PlaceCame s place e before after answer = Comes (HeldDoes before after s (Query e)) TellsNames (IsUntried (IsNoSession s ⊎ (place ≡ 0)) ⊥) before after answer

abbrev pub SizesCame : ℕ → Held → Held → Result Counts Failure → Type 0
SizesCame s before after answer = Comes (HeldDoes before after s Status) (TellsBy sizes_reply) (IsWrong (IsNoSession s)) before after answer

abbrev pub ReloadCame : ℕ → Held → Held → Result ℕ Failure → Type 0
ReloadCame s before after answer = Comes (HeldDoes before after s Reload) (TellsBy Reloaded) (IsWrong (IsNoSession s)) before after answer

abbrev pub DiscardCame : ℕ → Held → Held → Result ℕ Failure → Type 0
DiscardCame s before after answer = Comes (HeldDoes before after s Discard) (TellsBy Discarded) (IsWrong (IsNoSession s)) before after answer

-- So many bytes from that place on came to the front of the room, as many as there are and fit.
abbrev pub IsCopied : List ℕ → ℕ → ℕ → List ℕ → List ℕ → Type 0
IsCopied bytes from count before now = (count ≡ min (length before) (length bytes - from)) × (now ≡ take count (drop from bytes) ++ drop count before)
