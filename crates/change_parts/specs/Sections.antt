-- The section of a payload that has the flat segments of a group.
use Rattle.std.specs.Prelude.{◌++◌, List, map}
use Rattle.id_groups.specs.declared.id.Group.{Group}
use Rattle.id_groups.specs.declared.id.Group.TheVariants.{Master, Others}
use Rattle.batch_codec.specs.Payload.{Payload}
use Rattle.change_parts.specs.Flat.{Span}
use Rattle.change_parts.specs.Moves.{flat_record}

-- the payload with these segments behind those of the group
abbrev pub with_spans : Group → Payload → List Span → Payload
with_spans Master p spans = record p { master = p.master ++ map flat_record spans }
with_spans Others p spans = record p { others = p.others ++ map flat_record spans }
