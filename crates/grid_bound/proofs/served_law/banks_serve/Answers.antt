use Rattle.grid_bound.proofs.AllBanks as banking
use Rattle.grid_bound.proofs.served_law.banks_serve.Goals as goal

pub returns : goal.returns
returns W c = λ blocks budget g f fs t good i ok went runs quiet.
    banking.banks_serve blocks good budget t f g fs i ok went runs quiet
