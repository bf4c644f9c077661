-- A unit, as far as it is read: what is known before a token.
use Rattle.std.specs.Prelude.{ℕ, ◌+◌, [], ◌∷◌, ◌++◌}
use Rattle.std.specs.Prelude.{Some, None}
use Rattle.c_tree.specs.declared.Form.{Form}
use Rattle.c_tree.specs.declared.Form.TheVariants as form
use Rattle.c_tree.specs.declared.Key.TheVariants as key
use Rattle.c_lex.specs.Bytes.{Bytes}
use Rattle.c_lex.specs.Lexes.{Tokens}
use Rattle.c_library.specs.Places.{tokens}
use Rattle.c_locals.specs.declared.state.Mode.{Mode}
use Rattle.c_locals.specs.declared.state.Mode.TheVariants as mode
use Rattle.c_locals.specs.declared.stages.Stage.TheVariants as stage
use Rattle.c_locals.specs.declared.state.State.{State}
use Rattle.c_locals.specs.Brackets.{depth_past}
use Rattle.c_locals.specs.Stages.{stage_past}

-- before the first token of a unit
abbrev pub beginning : State
beginning =
    record {
      out = [];
      front = [];
      item = [];
      names = [];
      count = 0;
      blocks = 0;
      parens = 0;
      depth = 0;
      mode = mode.Code;
      stage = stage.Name;
    }

-- behind the item that is read
abbrev pub to_item : Tokens → State → State
to_item ts s = record s { item = s.item ++ ts }

-- in front of it
abbrev pub to_front : Tokens → State → State
to_front ts s = record s { front = s.front ++ ts }

-- `static` stays, which the grammar refuses
abbrev pub refused : ℕ → State → State
refused at s = to_item (tokens at (form.Key key.Static ∷ [])) s

-- from its words on
abbrev pub declaring : Mode → State → State
declaring m s = record s { mode = m; stage = stage.Name; depth = 0 }

-- behind its end
abbrev pub ended : State → State
ended s = record s { mode = mode.Code }

-- behind a token within it
abbrev pub going_on : Form → State → State
going_on f s = record s { depth = depth_past f s.depth; stage = stage_past s.depth s.stage f }

-- behind the name of a declarator
abbrev pub named : State → State
named s = record s { stage = stage.Sizes }

-- with a name declared anew
abbrev pub hidden : Bytes → State → State
hidden w s = record s { names = record { name = w; to = None; block = s.blocks } ∷ s.names }

-- with the name of an object
abbrev pub with_object : Bytes → Bytes → State → State
with_object w v s =
    record s { names = record { name = w; to = Some v; block = s.blocks } ∷ s.names; count = s.count + 1 }

-- the item whole, and what stands in front of it
abbrev pub flushed : State → State
flushed s = record s { out = s.out ++ (s.front ++ s.item); front = []; item = [] }
