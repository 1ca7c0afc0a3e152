use Rattle.lazy_names.proofs.Wires.{told-wire, asked-wire, untold-wire, few-wire}
use Rattle.lazy_names.proofs.laws.runs_are_put_once.Goals as goal

pub returns-clause-tells : goal.returns-clause-tells
returns-clause-tells c = λ asked runs before now h t. told-wire asked runs before now h t

pub returns-clause-asks : goal.returns-clause-asks
returns-clause-asks c = λ asked told run before now h t. asked-wire asked told run before now h t

pub returns-clause-untold : goal.returns-clause-untold
returns-clause-untold c = λ asked run before now h t. untold-wire asked run before now h t

pub returns-clause-few : goal.returns-clause-few
returns-clause-few c = λ flats known entries ids asked told count wire h w. few-wire flats known entries ids asked told count wire h w
