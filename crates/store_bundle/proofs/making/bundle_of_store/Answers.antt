use Rattle.std.proofs.lemmas.Result.{err_from_is_err_and}
use Rattle.store_bundle.proofs.making.bundle_of_store.Goals as goal

pub returns-in_err-bytes : goal.returns-in_err-bytes
returns-in_err-bytes c = λ began st h.
    let q = err_from_is_err_and c.from_residual.result c.from_residual.ensures.1 in
    rw q.1 (c.in-Some.ensures.worlds began st h).0

pub returns : goal.returns
returns c = λ began st h. let x = c.in-Some.ensures.worlds began st h in (x.0, c.in_ok-bytes.ensures st.stored x.1)
