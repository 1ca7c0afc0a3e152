use Rattle.range_query.proofs.between.without.Goals as goal

pub returns-clause-members : goal.returns-clause-members
returns-clause-members c = λ x.
    let same = c.in_ok-to_set.ensures.members x in let rest = c.in_ok-found.ensures.members x in (
      λ m. let h = rest.0 m in (h.0, λ n. h.1 (same.1 n)),
      λ h. rest.1 (h.0, λ n. h.1 (same.0 n)),
    )
