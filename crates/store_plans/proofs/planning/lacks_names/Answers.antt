use Rattle.std.proofs.Common.{◌≡◌, ◌∙◌, [], sym, subst, append-nil}
use Rattle.name_map.specs.Added.{FollowInLog, known_of}
use Rattle.name_map.specs.Map.{IsMapOf, count_known}
use Rattle.payload_tables.proofs.Basing.{table-end}
use Rattle.store_plans.proofs.Counting.{lazy-counted}
use Rattle.store_plans.proofs.planning.lacks_names.Goals as goal

pub returns : goal.returns
returns c = λ added w t stand.
    let whole = sym (append-nil added) in
    lazy-counted added [] (subst (FollowInLog 0) whole t.names.follow) w stand c.master_count-count.result c.known_below.result (c.master_count-count.ensures ∙ table-end c.args.tables.now added t ∙ stand.count)
    (subst (λ l. c.known_below.result ≡ count_known c.master_count-count.result (known_of l)) whole (c.known_below.ensures added (subst (λ m. IsMapOf m added) (sym c.names.ensures) t.names)))
