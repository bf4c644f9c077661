-- The rule of firing in a case: what a node gives where one bit stands for its word, and what each
-- place gets. Source: TRIPS Processor Reference Manual, UT Austin TR-05-19. Own: that a case keeps of a
-- word only its low bit (docs/MACHINE.md, "Good blocks").
use Rattle.std.specs.Prelude.{ℕ, zero, suc, ◌+◌, Bool, true, false, List, [], ◌∷◌, Option, Some, None}
use Rattle.std.specs.Prelude.{slice_get}
use Rattle.trips_isa.specs.declared.form.Role.{Role}
use Rattle.trips_isa.specs.declared.form.Role.TheVariants.{Empty, Reading, Free, Nothing, Copy, One}
use Rattle.trips_isa.specs.declared.form.Role.TheVariants.{Both}
use Rattle.trips_isa.specs.declared.block.Sense.{Sense}
use Rattle.trips_isa.specs.declared.block.Sense.TheVariants.{Always, OnTrue, OnFalse}
use Rattle.block_cases.specs.declared.token.CaseToken.{CaseToken}
use Rattle.block_cases.specs.declared.token.CaseToken.TheVariants.{Absent, Null, Bit}
use Rattle.trips_isa.specs.declared.node.Node.{Node}
use Rattle.block_cases.specs.Nodes.{targets, names}

-- the other truth value
abbrev pub no : Bool → Bool
no true = false
no false = true

-- whether an instruction may fire, by the token at its predicate; a null token matches neither sense
abbrev pub matches : Sense → CaseToken → Bool
matches Always p = true
matches OnTrue (Bit v) = v
matches OnTrue _ = false
matches OnFalse (Bit v) = no v
matches OnFalse _ = false

-- what a node of one operand gives where v is its bit: null of null, and nothing of nothing
abbrev pub one_word : Bool → CaseToken → CaseToken
one_word v Absent = Absent
one_word v Null = Null
one_word v (Bit w) = Bit v

-- what a node of two operands gives where v is its bit: it waits for both, and gives null of a null one
abbrev pub both_words : Bool → CaseToken → CaseToken → CaseToken
both_words v Absent r = Absent
both_words v Null Absent = Absent
both_words v Null Null = Null
both_words v Null (Bit w) = Null
both_words v (Bit u) r = one_word v r

-- what a node gives of its operands where v is its bit
abbrev pub gives : Role → Bool → CaseToken → CaseToken → CaseToken
gives Empty v l r = Absent
gives Reading v l r = Bit v
gives Free v l r = Bit v
gives Nothing v l r = Null
gives Copy v l r = l
gives One v l r = one_word v l
gives Both v l r = both_words v l r

-- a token, where the predicate matches
abbrev pub if_matched : Bool → CaseToken → CaseToken
if_matched true t = t
if_matched false t = Absent

-- what a node with the bit v gives of the tokens at its operands and its predicate
abbrev pub fire : Node → Bool → CaseToken → CaseToken → CaseToken → CaseToken
fire n v l r p = if_matched (matches n.sense p) (gives n.role v l r)

-- only what is named is asked
abbrev pub taken : Bool → (ℕ → CaseToken) → CaseToken
taken true f = f 0
taken false f = Absent

-- the first of two tokens that is there
abbrev pub or_else : CaseToken → CaseToken → CaseToken
or_else Absent u = u
or_else Null u = Null
or_else (Bit v) u = Bit v

-- the token of the lowest producer that gives one, where f says what each node gives
abbrev pub first : List Node → ℕ → (ℕ → CaseToken) → CaseToken
first [] q f = Absent
first (n ∷ ns) q f = or_else (taken (names (targets n) q) f) (first ns q (λ y. f (suc y)))

-- what a node with the bit v gives where `pull` says what stands at each place
abbrev pub pulled : Option Node → Bool → (ℕ → CaseToken) → CaseToken
pulled None v pull = Absent
pulled (Some n) v pull = fire n v (pull n.slot) (pull (128 + n.slot)) (pull (256 + n.slot))

-- what node x gives where c gives the bits and it asks its producers at most k deep
abbrev pub fires : List Node → (ℕ → Bool) → ℕ → ℕ → CaseToken
fires ns c zero x = Absent
fires ns c (suc k) x = pulled (slice_get ns x) (c x) (λ q. first ns q (fires ns c k))
