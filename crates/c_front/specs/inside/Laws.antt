-- What a text is, it is once.
use Rattle.std.specs.Prelude.{◌≡◌, ◌⊎◌, ℕ, List}
use Rattle.c_tree.specs.declared.typed.TypedProgram.{TypedProgram}
use Rattle.c_front.specs.declared.refusal.Refusal.{Refusal}
use Rattle.c_front.specs.Fronts.{IsAccepted}
use Rattle.c_front.specs.Refusals.{IsRefused}

-- a text has at most one typed program
abbrev pub AcceptedOnce : Type 0
AcceptedOnce = (text : List ℕ) (p q : TypedProgram) → IsAccepted text p → IsAccepted text q → p ≡ q

-- no text is both accepted and refused
abbrev pub NotBoth : Type 0
NotBoth = (text : List ℕ) (p : TypedProgram) (r : Refusal) → IsAccepted text p → IsRefused text r
    → ⊥

-- a text is refused by one stage, with one fault
abbrev pub RefusedOnce : Type 0
RefusedOnce = (text : List ℕ) (r s : Refusal) → IsRefused text r → IsRefused text s → r ≡ s

-- every text is accepted or refused
abbrev pub EveryTextAnswers : Type 0
EveryTextAnswers =
    (text : List ℕ) → ((p : TypedProgram) × IsAccepted text p) ⊎ ((r : Refusal) × IsRefused text r)
