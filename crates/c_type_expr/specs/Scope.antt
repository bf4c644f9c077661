-- What the names mean, and how they are kept.
use Rattle.std.specs.Prelude.{ℕ, Bool, false, nat_eq, cond, List, [], ◌∷◌, Option, Some, None, ◌-◌, length, map, take}
use Rattle.std.specs.Prelude.{is_some, drop}
use Rattle.std.specs.Cmp.Lexicographic.{pointwise}
use Rattle.c_type_expr.specs.declared.meaning.Meaning.{Meaning}
use Rattle.c_type_expr.specs.declared.meaning.Binding.{Binding}
use Rattle.c_type_expr.specs.declared.meaning.Entry.{Entry}

-- are the names the same, byte by byte?
abbrev pub same_name : List ℕ → List ℕ → Bool
same_name = pointwise nat_eq

-- the names of one block, the newest first
abbrev pub Frame : Type 0
Frame = List Binding

-- the blocks that are open, the innermost first
abbrev pub Scope : Type 0
Scope = List Frame

-- the first meaning, or else the second
abbrev pub or_else : Option Meaning → Option Meaning → Option Meaning
or_else None n = n
or_else (Some m) n = Some m

-- what a name means in one block
abbrev pub find : Frame → List ℕ → Option Meaning
find [] w = None
find (b ∷ f) w = cond (same_name b.name w) (Some b.meaning) (find f w)

-- the innermost meaning of a name
abbrev pub look_up : Scope → List ℕ → Option Meaning
look_up [] w = None
look_up (f ∷ G) w = or_else (find f w) (look_up G w)

-- is the name declared in the innermost block?
abbrev pub is_here : Scope → List ℕ → Bool
is_here [] w = false
is_here (f ∷ G) w = is_some (find f w)

-- the scope with one block more
abbrev pub opened : Scope → Scope
opened G = [] ∷ G

-- the scope without its innermost block; the outermost one stays
abbrev pub closed : Scope → Scope
closed [] = []
closed (f ∷ []) = f ∷ []
closed (f ∷ g ∷ G) = g ∷ G

-- the scope with one more binding in its innermost block
abbrev pub declared_in : Binding → Scope → Scope
declared_in b [] = (b ∷ []) ∷ []
declared_in b (f ∷ G) = (b ∷ f) ∷ G

-- a name with its meaning
abbrev pub bound : List ℕ → Meaning → Binding
bound w m = record { name = w; meaning = m }

-- the bindings of entries
abbrev pub bindings : List Entry → Frame
bindings = map (λ e. e.binding)

-- the blocks, of which each but the outermost begins at a place
abbrev pub frames : List ℕ → List Entry → Scope
frames [] es = bindings es ∷ []
frames (s ∷ ss) es = bindings (take (length es - s) es) ∷ frames ss (drop (length es - s) es)
