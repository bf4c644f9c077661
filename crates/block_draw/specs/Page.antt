-- What is the same in each drawing: its size, its style, the tiles, and what its marks mean.
use Rattle.std.specs.Prelude.{ℕ, List, ◌++◌, codes}

-- the size of the page, its letters and its ground
unfoldable pub page_size : List ℕ
page_size = codes "<svg xmlns='http://www.w3.org/2000/svg' viewBox='0 0 1220 1080' "
    ++ (codes "font-family='monospace' font-size='12' text-anchor='middle'>\n"
    ++ codes "<rect class='page' width='1220' height='1080'/>\n")

-- the boxes by when their instructions fire
unfoldable pub box_style : List ℕ
box_style = codes "<style>rect,circle{fill:#fff;stroke:#333}.yes{fill:#e2f3e2;stroke:#1b6e1b}\n"
    ++ codes ".no{fill:#fdebd8;stroke:#a34d00}.null{fill:#ece6f6;stroke:#6b3fa0;stroke-dasharray:3 2}\n"

-- the marks on them
unfoldable pub mark_style : List ℕ
mark_style = codes ".on{fill:#1b6e1b;stroke:#1b6e1b}.off{stroke:#a34d00;stroke-width:2}\n"
    ++ codes ".slot{fill:#555;font-size:9px}.title{font-size:16px}.page{stroke:none}.op,.yes,.no{fill-opacity:.8}\n"

-- the arcs of tokens by where they go
unfoldable pub arc_style : List ℕ
arc_style = codes "path{fill:none;stroke:#1f4e9e;marker-end:url(#tip)}.right{stroke-dasharray:7 2}\n"
    ++ codes ".write{stroke:#777}.guard{stroke:#c23b22;stroke-dasharray:2 2}\n"

-- the arcs of memory and exits, and the tiles
unfoldable pub beside_style : List ℕ
beside_style = codes ".load,.store{stroke:#6b3fa0;stroke-dasharray:9 3 2 3}\n"
    ++ (codes ".leave{stroke:#000;stroke-width:2}.tip{fill:#333;stroke:none;marker-end:none}\n"
    ++ codes ".tiles{fill:#f6f6f6;stroke:#bbb;marker-end:none}</style>\n")

-- the tip of an arc
unfoldable pub tip : List ℕ
tip = codes "<marker id='tip' viewBox='0 0 8 8' refX='8' refY='4' markerWidth='8' "
    ++ (codes "markerHeight='8' orient='auto' markerUnits='userSpaceOnUse'>"
    ++ codes "<path class='tip' d='M0 1L8 4L0 7z'/></marker>\n")

-- the upper two rows of tiles
unfoldable pub upper_tiles : List ℕ
upper_tiles = codes "<path class='tiles' d='M150 150h220v190h-220zM380 150h220v190h-220z"
    ++ (codes "M610 150h220v190h-220zM840 150h220v190h-220zM150 350h220v190h-220z"
    ++ codes "M380 350h220v190h-220zM610 350h220v190h-220zM840 350h220v190h-220z")

-- the lower two
unfoldable pub lower_tiles : List ℕ
lower_tiles = codes "M150 550h220v190h-220zM380 550h220v190h-220zM610 550h220v190h-220z"
    ++ (codes "M840 550h220v190h-220zM150 750h220v190h-220zM380 750h220v190h-220z"
    ++ codes "M610 750h220v190h-220zM840 750h220v190h-220z'/>\n")

-- how all parts look
unfoldable pub style : List ℕ
style = box_style ++ (mark_style ++ (arc_style ++ beside_style))

-- what stands before the parts of a block
unfoldable pub page_head : List ℕ
page_head = page_size ++ (style ++ (tip ++ (upper_tiles ++ lower_tiles)))

-- the arcs of operands and predicates, at the lower left
unfoldable pub operand_key : List ℕ
operand_key = codes "<path class='left' d='M10 960H60'/><text x='100' y='964'>left</text>\n"
    ++ (codes "<path class='right' d='M10 980H60'/><text x='100' y='984'>right</text>\n"
    ++ codes "<path class='guard' d='M10 1000H60'/><text x='100' y='1004'>predicate</text>\n")

-- the other arcs
unfoldable pub beside_key : List ℕ
beside_key = codes "<path class='load' d='M10 1020H60'/><text x='100' y='1024'>memory</text>\n"
    ++ (codes "<path class='write' d='M10 1040H60'/><text x='100' y='1044'>write</text>\n"
    ++ codes "<path class='leave' d='M10 1060H60'/><text x='100' y='1064'>exit</text>\n")

-- the box of what fires on true, at the lower right
unfoldable pub true_key : List ℕ
true_key = codes "<rect class='yes' x='1090' y='970' width='40' height='20'/>"
    ++ codes "<circle class='on' cx='1090' cy='980' r='4'/><text x='1170' y='984'>on true</text>\n"

-- that of what fires on false
unfoldable pub false_key : List ℕ
false_key = codes "<rect class='no' x='1090' y='1000' width='40' height='20'/>"
    ++ codes "<circle class='off' cx='1090' cy='1010' r='4'/><text x='1170' y='1014'>on false</text>\n"

-- that of what gives the null token
unfoldable pub null_key : List ℕ
null_key = codes "<rect x='1090' y='1030' width='40' height='20'/><rect class='null' x='1092' y='1032' "
    ++ codes "width='36' height='16' rx='8'/><text x='1170' y='1044'>null</text>\n"

-- the end of the page
unfoldable pub page_end : List ℕ
page_end = codes "</svg>\n"

-- what stands behind them
unfoldable pub page_foot : List ℕ
page_foot = operand_key ++ (beside_key ++ (true_key ++ (false_key ++ (null_key ++ page_end))))
