-- What the parts of a command's text say of the whole.
use Rattle.std.proofs.Common.{◌≡◌, ◌==◌, ◌<◌, ◌+◌, take, drop, ℕ, List, [], ◌∷◌, ◌++◌, ◌⊎◌, inl, inr, length, refl, sym, ◌∙◌, ap, subst, arith, codes, decimal, Option, Some, None, Ok, Err, true, append-nil}
use Rattle.std.specs.Prelude.{◌≢◌, ◌≤◌, IsTrue, IfOk, position}
use Rattle.std.specs.declared.result.Result.{Result}
use Rattle.std.specs.List.{AllZip}
use Rattle.std.proofs.lemmas.Grind.{common_steps}
use Rattle.std.proofs.lemmas.Slice.Zip.{AllZip-long}
use Rattle.outside.specs.Parts.{HasNone, split_at}
use Rattle.outside.proofs.PartsLemmas.{position-none, position-some, split-part, split-rest}
use Rattle.id_groups.specs.Name.{Name, SpellsName, name_of}
use Rattle.id_groups.proofs.Names.{name_of-spelled}
use Rattle.set_expr.proofs.Marks.{part-same}
use Rattle.step_rules.specs.Step.{MayWantMemory}
use Rattle.step_rules.specs.Verb.{Verb, Add, Flush, Reload, Discard, Query, Count, IdOf, Status, Levels, Clone, Pull, Strip, CountMirrors, Drop}
use Rattle.run_rules.specs.Built.{is_built}
use Rattle.run_rules.specs.Grammar.{SpellsCommand, SpellsVerb, SpellsNames, more_words}
use Rattle.command_lines.specs.declared.command.Verb.{Verb as Given}
use Rattle.command_lines.specs.declared.words.Word.{Word}
use Rattle.command_lines.specs.declared.words.Word.TheVariants as words
use Rattle.command_lines.specs.Meant.{meant, TakesMemory}
use Rattle.command_lines.specs.Parts.{word_text, verb_word, AreNames, SpellsArgs, HasWord, SpellsParts, FitsNone}
use Rattle.command_lines.proofs.NamesLemmas.{words-of-text, split-words}
use Rattle.command_lines.proofs.TextLemmas.{none-in, is_clear, clear, number-no-blank}

-- the text behind a word: nothing, or a blank and what it cuts off
abbrev pub after : Option (List ℕ) → List ℕ
after None = []
after (Some args) = 32 ∷ args

some-same : (v w : Word) → Some v ≡ Some w → v ≡ w
some-same v w e = cc e

-- a text is cut at its first blank in one way
one-split : (f g : List ℕ) (x y : Option (List ℕ)) → HasNone 32 f → HasNone 32 g → f ++ after x ≡ g ++ after y → (f ≡ g) × (x ≡ y)
one-split f g None None h k e = (sym (append-nil f) ∙ e ∙ append-nil g, refl)
one-split f g None (Some b) h k e = absurd (none-in 32 g b (subst (HasNone 32) (sym (append-nil f) ∙ e) h))
one-split f g (Some a) None h k e = absurd (none-in 32 f a (subst (HasNone 32) (sym (append-nil g) ∙ sym e) k))
one-split f g (Some a) (Some b) h k e = let p = part-same 32 f a g b h k e in (p.0, ap (λ (z : List ℕ). Some z) p.1)

-- words have no blank, and no two are written alike
word-no-blank : (word : Word) → HasNone 32 (word_text word)
word-no-blank word = clear (word_text word) (all word)
  where
    all : (word : Word) → is_clear 32 (word_text word) ≡ true
    all words.Add = refl
    all words.Flush = refl
    all words.Reload = refl
    all words.Discard = refl
    all words.Query = refl
    all words.Count = refl
    all words.Id = refl
    all words.Status = refl
    all words.Levels = refl
    all words.Clone = refl
    all words.Pull = refl
    all words.Strip = refl
    all words.Mirrors = refl
    all words.DropAt = refl

-- names behind a word: none, or a blank and their words
names-parts : (text word : List ℕ) (names : List Name) → SpellsNames text word names
    → ((names ≡ []) × (text ≡ word)) ⊎ ((args : List ℕ) × AreNames args names × (text ≡ word ++ 32 ∷ args))
names-parts text word names h = by_words h.0 names h.1 h.2
  where
    by_words : (parts : List (List ℕ)) (names : List Name) → AllZip SpellsName parts names → text ≡ word ++ more_words parts
        → ((names ≡ []) × (text ≡ word)) ⊎ ((args : List ℕ) × AreNames args names × (text ≡ word ++ 32 ∷ args))
    by_words [] [] zip is = inl (refl, is ∙ append-nil word)
    by_words [] (n ∷ names) zip is = absurd zip
    by_words (part ∷ parts) [] zip is = absurd zip
    by_words (part ∷ parts) (n ∷ names) zip is =
        let split = split-words part parts (n ∷ names) zip in
        inr (part ++ more_words parts, subst (λ l. AllZip SpellsName l (n ∷ names)) (sym split) zip, is)

-- there is a word before the first blank, and so a name
some-names : (args : List ℕ) (names : List Name) → AreNames args names → names ≢ []
some-names args names zip none =
    let long = AllZip-long SpellsName (split_at 32 args) names zip in
    let one : 1 ≤ length (split_at 32 args) = grind (arith, common_steps) in
    let zero : length names ≡ 0 = ap (λ (l : List Name). length l) none in
    omega (arith, long, one, zero)

names-behind : (word args : List ℕ) (names : List Name) → AreNames args names → SpellsNames (word ++ 32 ∷ args) word names
names-behind word args names zip = (split_at 32 args, zip, ap (λ xs. word ++ xs) (sym (words-of-text args)))

-- the parts of a text that spells a verb
abbrev Parts : List ℕ → Verb → Type 0
Parts text verb = (word : Word) × (behind : Option (List ℕ)) × HasWord word behind verb × (text ≡ word_text word ++ after behind)

bare : (text word : List ℕ) → text ≡ word → text ≡ word ++ []
bare text word is = is ∙ sym (append-nil word)

verb-parts : (text : List ℕ) (verb : Verb) → IsTrue (is_built verb) → SpellsVerb text verb → Parts text verb
verb-parts text (Add name parents) b h = by_names (names-parts text (codes "add") (name ∷ parents) h.1)
  where
    by_names : ((name ∷ parents ≡ []) × (text ≡ codes "add")) ⊎ ((args : List ℕ) × AreNames args (name ∷ parents) × (text ≡ codes "add" ++ 32 ∷ args)) → Parts text (Add name parents)
    by_names (inl p) = cc p.0
    by_names (inr p) = (words.Add, Some p.0, (refl, (h.0, p.1)), p.2)
verb-parts text (Flush heads) b h = by_names (names-parts text (codes "flush") heads h)
  where
    by_names : ((heads ≡ []) × (text ≡ codes "flush")) ⊎ ((args : List ℕ) × AreNames args heads × (text ≡ codes "flush" ++ 32 ∷ args)) → Parts text (Flush heads)
    by_names (inl p) = (words.Flush, None, (refl, p.0), bare text (codes "flush") p.1)
    by_names (inr p) = (words.Flush, Some p.0, (refl, p.1), p.2)
verb-parts text Reload b h = (words.Reload, None, (refl, tt), bare text (codes "reload") h)
verb-parts text Discard b h = (words.Discard, None, (refl, tt), bare text (codes "discard") h)
verb-parts text (Query e) b h = (words.Query, Some h.0, (refl, h.1), h.2)
verb-parts text (Count e) b h = (words.Count, Some h.0, (refl, h.1), h.2)
verb-parts text (IdOf name) b h = (words.Id, Some h.0, (refl, h.1), h.2)
verb-parts text Status b h = (words.Status, None, (refl, tt), bare text (codes "status") h)
verb-parts text Levels b h = (words.Levels, None, (refl, tt), bare text (codes "levels") h)
verb-parts text Clone b h = (words.Clone, None, (refl, tt), bare text (codes "clone") h)
verb-parts text Pull b h = (words.Pull, None, (refl, tt), bare text (codes "pull") h)
verb-parts text (Strip names) b h = by_names (names-parts text (codes "strip") names h.1)
  where
    by_names : ((names ≡ []) × (text ≡ codes "strip")) ⊎ ((args : List ℕ) × AreNames args names × (text ≡ codes "strip" ++ 32 ∷ args)) → Parts text (Strip names)
    by_names (inl p) = absurd (h.0 p.0)
    by_names (inr p) = (words.Strip, Some p.0, (refl, p.1), p.2)
verb-parts text CountMirrors b h = (words.Mirrors, None, (refl, tt), bare text (codes "mirrors") h)
verb-parts text (Drop k) b h = (words.DropAt, Some h.0, (refl, h.1), h.2)

-- a text in parts is that of the verb
abbrev Spelled : Word → Option (List ℕ) → Verb → Type 0
Spelled word behind verb = IsTrue (is_built verb) × SpellsVerb (word_text word ++ after behind) verb

parts-verb : (verb : Verb) (behind : Option (List ℕ)) (word : Word) → verb_word verb ≡ Some word → SpellsArgs verb behind → Spelled word behind verb
parts-verb verb behind word e h = from verb behind h word e
  where
    from : (verb : Verb) (behind : Option (List ℕ)) → SpellsArgs verb behind → (word : Word) → verb_word verb ≡ Some word → Spelled word behind verb
    from (Add name parents) (Some args) h word e = subst (λ w. Spelled w (Some args) (Add name parents)) (some-same words.Add word e) (refl, (h.0, names-behind (codes "add") args (name ∷ parents) h.1))
    from (Flush heads) (Some args) h word e = subst (λ w. Spelled w (Some args) (Flush heads)) (some-same words.Flush word e) (refl, names-behind (codes "flush") args heads h)
    from (Flush heads) None h word e = subst (λ w. Spelled w None (Flush heads)) (some-same words.Flush word e) (refl, subst (λ l. SpellsNames (codes "flush" ++ []) (codes "flush") l) (sym h) ([], tt, refl))
    from Reload None h word e = subst (λ w. Spelled w None Reload) (some-same words.Reload word e) (refl, refl)
    from Discard None h word e = subst (λ w. Spelled w None Discard) (some-same words.Discard word e) (refl, refl)
    from (Query x) (Some args) h word e = subst (λ w. Spelled w (Some args) (Query x)) (some-same words.Query word e) (refl, (args, h, refl))
    from (Count x) (Some args) h word e = subst (λ w. Spelled w (Some args) (Count x)) (some-same words.Count word e) (refl, (args, h, refl))
    from (IdOf name) (Some args) h word e = subst (λ w. Spelled w (Some args) (IdOf name)) (some-same words.Id word e) (refl, (args, h, refl))
    from (Strip names) (Some args) h word e = subst (λ w. Spelled w (Some args) (Strip names)) (some-same words.Strip word e) (refl, (some-names args names h, names-behind (codes "strip") args names h))
    from Status None h word e = subst (λ w. Spelled w None Status) (some-same words.Status word e) (refl, refl)
    from Levels None h word e = subst (λ w. Spelled w None Levels) (some-same words.Levels word e) (refl, refl)
    from Clone None h word e = subst (λ w. Spelled w None Clone) (some-same words.Clone word e) (refl, refl)
    from Pull None h word e = subst (λ w. Spelled w None Pull) (some-same words.Pull word e) (refl, refl)
    from CountMirrors None h word e = subst (λ w. Spelled w None CountMirrors) (some-same words.Mirrors word e) (refl, refl)
    from (Drop k) (Some args) h word e = subst (λ w. Spelled w (Some args) (Drop k)) (some-same words.DropAt word e) (refl, (args, h, refl))
    from Pull (Some args) h word e = absurd h
    from (Add name parents) None h word e = absurd h
    from Reload (Some args) h word e = absurd h
    from Discard (Some args) h word e = absurd h
    from (Strip names) None h word e = absurd h
    from (Query x) None h word e = absurd h
    from (Count x) None h word e = absurd h
    from (IdOf name) None h word e = absurd h
    from Status (Some args) h word e = absurd h
    from Levels (Some args) h word e = absurd h
    from Clone (Some args) h word e = absurd h
    from CountMirrors (Some args) h word e = absurd h
    from (Drop k) None h word e = absurd h

-- a text that is cut at its first blank spells what its parts spell
pub in-parts : (text front : List ℕ) (behind : Option (List ℕ)) (verb : Verb) → HasNone 32 front → text ≡ front ++ after behind
    → IsTrue (is_built verb) → SpellsVerb text verb → SpellsParts front behind verb
in-parts text front behind verb clear is built h =
    let p = verb-parts text verb built h in
    let q = one-split (word_text p.0) front p.1 behind (word-no-blank p.0) clear (sym p.3 ∙ is) in
    (p.0, sym q.0, (p.2.0, subst (SpellsArgs verb) q.1 p.2.1))

pub of-parts : (text front : List ℕ) (behind : Option (List ℕ)) (verb : Verb) → text ≡ front ++ after behind → SpellsParts front behind verb
    → IsTrue (is_built verb) × SpellsVerb text verb
of-parts text front behind verb is h =
    let s = parts-verb verb behind h.0 h.2.0 h.2.1 in
    (s.0, subst (λ t. SpellsVerb t verb) (ap (λ f. f ++ after behind) (sym h.1) ∙ sym is) s.1)

-- the same of what was read
pub ok-parts : {E : Type 0} (text front : List ℕ) (behind : Option (List ℕ)) (r : Result Given E) → text ≡ front ++ after behind
    → IfOk r (λ verb. SpellsParts front behind (meant verb)) → IfOk r (λ verb. IsTrue (is_built (meant verb)) × SpellsVerb text (meant verb))
ok-parts text front behind (Ok verb) is h = of-parts text front behind (meant verb) is h
ok-parts text front behind (Err fault) is h = tt

-- which takes memory to be read may want it
pub takes-wants : (verb : Verb) → TakesMemory verb → MayWantMemory verb
takes-wants (Add name parents) t = tt
takes-wants (Flush heads) t = tt
takes-wants (Query x) t = tt
takes-wants (Count x) t = tt
takes-wants (Strip names) t = tt
takes-wants Reload t = tt
takes-wants (IdOf name) t = tt
takes-wants Clone t = tt
takes-wants Pull t = tt
takes-wants Discard t = t
takes-wants Status t = t
takes-wants Levels t = t
takes-wants CountMirrors t = t
takes-wants (Drop k) t = t

-- a text that is no name fits none
pub no-name : (args : List ℕ) (word : Word) → word ≡ words.Id → None ≡ name_of args → FitsNone word (Some args)
no-name args word is none = subst (λ w. FitsNone w (Some args)) (sym is) (λ name h. let e = name_of-spelled args name h in cc (none ∙ e))

-- the words of arguments are the one before the first blank, and those behind it
words-cut : (args : List ℕ) (len : ℕ) → Some len ≡ position (λ b. b == 32) args → split_at 32 args ≡ take len args ∷ split_at 32 (drop (len + 1) args)
words-cut args len at =
    let found = position-some 32 args len (sym at) in
    ap (split_at 32) found.whole ∙ split-part 32 (take len args) (drop (len + 1) args) found.part

-- a name, and the names behind it
module _ (args : List ℕ) (len : ℕ) (at : Some len ≡ position (λ b. b == 32) args) (front rest : List ℕ) (before : front ≡ take len args) (behind : rest ≡ drop (len + 1) args) where
  cut : split_at 32 args ≡ front ∷ split_at 32 rest
  cut = words-cut args len at ∙ ap (λ w. w ∷ split_at 32 (drop (len + 1) args)) (sym before) ∙ ap (λ t. front ∷ split_at 32 t) (sym behind)

  pub name-and-more : (name : Name) (parents : List Name) → SpellsName front name → AreNames rest parents → AreNames args (name ∷ parents)
  name-and-more name parents first more = subst (λ l. AllZip SpellsName l (name ∷ parents)) (sym cut) (first, more)

  cut-names : (name : Name) (parents : List Name) → AreNames args (name ∷ parents) → SpellsName front name × AreNames rest parents
  cut-names name parents zip = subst (λ l. AllZip SpellsName l (name ∷ parents)) cut zip

  -- the first word is no name
  pub no-first : None ≡ name_of front → FitsNone words.Add (Some args)
  no-first none name parents few zip = let e = name_of-spelled front name (cut-names name parents zip).0 in cc (none ∙ e)

  -- the others aren't names
  pub no-more : ((names : List Name) → ¬ (AreNames rest names)) → FitsNone words.Add (Some args)
  no-more none name parents few zip = none parents (cut-names name parents zip).1

  -- they are more than an add has
  pub too-many : (names : List Name) → AreNames rest names → 8 < length names → FitsNone words.Add (Some args)
  too-many names all many name parents few zip =
      let long = AllZip-long SpellsName (split_at 32 rest) names all in
      let same = AllZip-long SpellsName (split_at 32 rest) parents (cut-names name parents zip).1 in
      omega (arith, long, same, many, few)

-- one word without a blank is all that there is
module _ (text : List ℕ) (at : position (λ b. b == 32) text ≡ None) where
  one-piece : split_at 32 text ≡ text ∷ []
  one-piece = split-rest 32 text (position-none 32 text at)

  pub one-name : (name : Name) → SpellsName text name → AreNames text (name ∷ [])
  one-name name h = subst (λ l. AllZip SpellsName l (name ∷ [])) (sym one-piece) (h, tt)

  pub no-root : None ≡ name_of text → FitsNone words.Add (Some text)
  no-root none name parents few zip =
      let h = subst (λ l. AllZip SpellsName l (name ∷ parents)) one-piece zip in
      let e = name_of-spelled text name h.0 in cc (none ∙ e)

-- a fault that is handed on is the same
pub same-fault : {T E : Type 0} (r : Result T E) (x y z : E) → r ≡ Err x → x ≡ y → r ≡ Err z → y ≡ z
same-fault r x y z is same goal = let e : x ≡ z = cc (sym is ∙ goal) in sym same ∙ e

-- what stands behind the session of a line spells the verb
pub line-text : (line : List ℕ) (session : ℕ) (text : List ℕ) (s : ℕ) (verb : Verb) → session < 16 → line ≡ decimal session ++ 32 ∷ text → SpellsCommand line s verb
    → IsTrue (is_built verb) × SpellsVerb text verb
line-text line session text s verb small is h =
    let clear : (n : ℕ) → n < 16 → HasNone 32 (decimal n) = λ n below. number-no-blank n (omega (arith, below)) in
    let same = (part-same 32 (decimal session) text (decimal s) h.0 (clear session small) (clear s h.1.0) (sym is ∙ h.3)).1 in
    (h.1.1, subst (λ t. SpellsVerb t verb) (sym same) h.2)
