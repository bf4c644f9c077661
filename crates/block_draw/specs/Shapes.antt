-- The elements of a drawing, as SVG writes them (Scalable Vector Graphics 1.1, 8 to 10). Each has a class, by which
-- the style of the page gives it its colour and its line.
use Rattle.std.specs.Prelude.{ℕ, List, ◌++◌, codes}
use Rattle.std.specs.Fmt.{decimal}
use Rattle.block_draw.specs.declared.positions.Port.{Port}

-- the beginning of an element, up to its class
unfoldable pub opened : List ℕ → List ℕ → List ℕ
opened name class = codes "<" ++ (name ++ (codes " class='" ++ (class ++ codes "'")))

-- an attribute that is a number, as ` x='12'`
unfoldable pub attribute : List ℕ → ℕ → List ℕ
attribute name n = codes " " ++ (name ++ (codes "='" ++ (decimal n ++ codes "'")))

-- a place
unfoldable pub placed : ℕ → ℕ → List ℕ
placed x y = attribute (codes "x") x ++ attribute (codes "y") y

-- a size
unfoldable pub sized : ℕ → ℕ → List ℕ
sized width height = attribute (codes "width") width ++ attribute (codes "height") height

-- a box of a class: its place, its size, and the radius of its corners
unfoldable pub box_text : List ℕ → ℕ → ℕ → ℕ → ℕ → ℕ → List ℕ
box_text class x y width height round =
    opened (codes "rect") class ++ (placed x y ++ (sized width height
    ++ (attribute (codes "rx") round ++ codes "/>\n")))

-- a circle of a class: its middle, and its radius
unfoldable pub circle_text : List ℕ → ℕ → ℕ → ℕ → List ℕ
circle_text class x y radius =
    opened (codes "circle") class ++ (attribute (codes "cx") x ++ (attribute (codes "cy") y ++
    (attribute (codes "r") radius ++ codes "/>\n")))

-- the beginning of a line of letters of a class, at a place
unfoldable pub letters_begin : List ℕ → ℕ → ℕ → List ℕ
letters_begin class x y = opened (codes "text") class ++ (placed x y ++ codes ">")

-- the line
unfoldable pub letters_text : List ℕ → ℕ → ℕ → List ℕ → List ℕ
letters_text class x y letters = letters_begin class x y ++ (letters ++ codes "</text>\n")

-- a point of a path
unfoldable pub point : ℕ → ℕ → List ℕ
point x y = codes " " ++ (decimal x ++ (codes " " ++ decimal y))

-- the two points by which a curve is pulled, and its end
unfoldable pub curve_end : Port → Port → List ℕ
curve_end from to = point from.pull_x from.pull_y ++ (point to.pull_x to.pull_y ++ point to.x to.y)

-- a curve of a class from one end to the other
unfoldable pub curve_text : List ℕ → Port → Port → List ℕ
curve_text class from to = opened (codes "path") class ++ (codes " d='M" ++ (point from.x from.y ++
    (codes " C" ++ (curve_end from to ++ codes "'/>\n"))))
