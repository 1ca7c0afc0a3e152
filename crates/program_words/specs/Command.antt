-- The one simple command that the words are read as.
use Rattle.std.specs.Prelude.{pos, ◌∷◌, [], ◌^◌, ◌-◌, Some, true, codes}
use Rattle.clap.specs.Words.{App, Rule, new_app, new_rule, with_rule}
use Rattle.clap.specs.declared.builder.action.ArgAction.TheVariants.{Set, SetTrue}
use Rattle.clap.specs.declared.builder.value_parser.ValueParser.TheVariants as parser

-- a mode has to be there
abbrev pub mode : Rule
mode = record (new_rule (codes "MODE")) { required = true; action = Some Set }

-- `--cache N`, from 1 to 65536, and 4096 where it isn't there
abbrev pub cache : Rule
cache = record (new_rule (codes "cache")) {
  long = Some (codes "cache");
  action = Some Set;
  parser = Some (parser.Signed (pos 1) (pos 65536));
  defaults = codes "4096" ∷ [];
}

-- `--size N`, from 1 to 60000, and 1000 where it isn't there
abbrev pub size : Rule
size = record (new_rule (codes "size")) {
  long = Some (codes "size");
  action = Some Set;
  parser = Some (parser.Signed (pos 1) (pos 60000));
  defaults = codes "1000" ∷ [];
}

-- `--start N`, of 64 bits, and 0 where it isn't there
abbrev pub start : Rule
start = record (new_rule (codes "start")) {
  long = Some (codes "start");
  action = Some Set;
  parser = Some (parser.Unsigned 0 (2 ^ 64 - 1));
  defaults = codes "0" ∷ [];
}

-- `--wait`, a flag
abbrev pub wait : Rule
wait = record (new_rule (codes "wait")) { long = Some (codes "wait"); action = Some SetTrue }

-- no argument yet; the words begin with the first of them
abbrev pub bare : App
bare = let app = new_app (codes "segdag") in record app { top = record app.top { no_binary_name = true } }

-- the whole command
abbrev pub command : App
command = with_rule (with_rule (with_rule (with_rule (with_rule bare mode) cache) size) start) wait
