-- `kernel::Settings::of_slice` meets its contract. Assumes nothing.
use Rattle.habits.proofs.Laws.{usual_capacities, usual_modes}
use Rattle.kernel.proofs.Settings.of_slice.Goals as goal

pub returns : goal.returns
returns c = λ i. record { slice = c.args.slice; capacity = usual_capacities i; mode = usual_modes i }
