use Rattle.set_query.proofs.unions.ancestors_of.Goals as goal

pub ancestors-requires : goal.ancestors-requires
ancestors-requires g t c = λ m. t.requires c ((t.in_ok-from.ensures.members c).0 m)
