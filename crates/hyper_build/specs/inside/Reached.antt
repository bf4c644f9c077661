-- Where emission leads: to the blocks of annotated code.
use Rattle.std.specs.Prelude.{◌≡◌, ℕ, ◌+◌, List, ◌++◌}
use Rattle.ir_forms.specs.inside.FlatCode.{Code}
use Rattle.ir_forms.specs.inside.FlatFits.{steps_of}
use Rattle.ir_forms.specs.inside.HyperCode.{Block}
use Rattle.reg_assign.specs.inside.Keeps.{calls}
use Rattle.hyper_build.specs.declared.emitting.Note.{Note}
use Rattle.hyper_build.specs.inside.Tree.{annotated}
use Rattle.hyper_build.specs.inside.Sizes.{size}
use Rattle.hyper_build.specs.inside.Entries.{entry}
use Rattle.hyper_build.specs.inside.Build.{blocks}
use Rattle.hyper_build.specs.inside.Ground.{Ground, plan, place}
use Rattle.hyper_build.specs.inside.Backward.{Emission}
use Rattle.hyper_build.specs.inside.BackwardCode.{emit}
use Rattle.hyper_build.specs.inside.Notes.{notes_of}

-- From blocks o emission came to state t: these blocks stand before o, and then the rest.
pub record Reached (o : List Block) (t : Emission) (l i k : ℕ) (N : List Note) (B : List Block)
    (E : Block) : Type 0
  where
    pub label : t.label ≡ l
    pub place : t.place ≡ i
    pub calls : t.calls ≡ k
    pub notes : t.notes ≡ N
    -- the new blocks stand in front of those that were out before
    pub out : t.out ≡ B ++ o
    pub rest : t.rest ≡ E

-- Emission before code puts out its blocks, where the labels and the numbers suffice and the notes of
-- its loops are the last; those before them are left.
abbrev pub IsReached : Ground → ℕ → ℕ → Code → Type 0
IsReached g b a c =
    (s : Emission) (l i k : ℕ) (N : List Note) → s.label ≡ l + size (annotated (plan g) i k c)
    → s.place ≡ i + steps_of c → s.calls ≡ k + calls c → s.notes ≡ N ++ notes_of (plan g) l i k c
    → Reached s.out (emit g b a c s) l i k N
    (blocks (place g b a) (annotated (plan g) i k c) l s.rest)
    (entry (place g b a) (annotated (plan g) i k c) l s.rest)

-- for every plan, and wherever a break and a continue lead
abbrev pub EmissionPutsBlocks : Type 0
EmissionPutsBlocks = (g : Ground) (b a : ℕ) (c : Code) → IsReached g b a c
