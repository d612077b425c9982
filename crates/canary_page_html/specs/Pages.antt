-- A page, piece after piece.
use Rattle.std.specs.Prelude.{◌≡◌, ℕ, List, ◌++◌, flat_map, fold, codes, decimal, Option, Some, None, option_and_then}
use Rattle.canary_page_html.specs.declared.element.Element.{Element}
use Rattle.canary_page_html.specs.declared.element.Element.TheVariants as element
use Rattle.canary_page_html.specs.declared.element.Attribute.{Attribute}
use Rattle.canary_page_html.specs.declared.element.Attribute.TheVariants as attribute
use Rattle.canary_page_html.specs.declared.piece.Piece.{Piece}
use Rattle.canary_page_html.specs.declared.piece.Piece.TheVariants as piece
use Rattle.canary_page_html.specs.declared.piece.HtmlContext.{HtmlContext}
use Rattle.canary_page_html.specs.declared.piece.HtmlContext.TheVariants as place
use Rattle.canary_page_html.specs.declared.markup.TheConstants.{HEAD, REFRESH}
use Rattle.canary_page_html.specs.declared.style.TheConstants.{STYLE}
use Rattle.canary_page_html.specs.Escaping.{escaped}

-- the name of an element in a tag
abbrev pub element_name : Element → List ℕ
element_name element.Title = codes "title"
element_name element.Body = codes "body"
element_name element.Main = codes "main"
element_name element.Navigation = codes "nav"
element_name element.Header = codes "header"
element_name element.Heading1 = codes "h1"
element_name element.Heading2 = codes "h2"
element_name element.Heading3 = codes "h3"
element_name element.Paragraph = codes "p"
element_name element.List = codes "ul"
element_name element.Steps = codes "ol"
element_name element.Item = codes "li"
element_name element.Span = codes "span"
element_name element.Strong = codes "b"
element_name element.Small = codes "small"
element_name element.Block = codes "div"
element_name element.Article = codes "article"
element_name element.Section = codes "section"
element_name element.Figure = codes "figure"
element_name element.Caption = codes "figcaption"
element_name element.Drawing = codes "svg"
element_name element.Line = codes "line"
element_name element.Path = codes "path"
element_name element.Circle = codes "circle"
element_name element.Rectangle = codes "rect"
element_name element.Label = codes "text"
element_name element.Details = codes "details"
element_name element.Summary = codes "summary"
element_name element.Table = codes "table"
element_name element.Row = codes "tr"
element_name element.Heading = codes "th"
element_name element.Cell = codes "td"
element_name element.Time = codes "time"
element_name element.Code = codes "code"
element_name element.Anchor = codes "a"

-- the name of an attribute in a tag
abbrev pub attribute_name : Attribute → List ℕ
attribute_name attribute.Class = codes "class"
attribute_name attribute.Id = codes "id"
attribute_name attribute.Title = codes "title"
attribute_name attribute.Role = codes "role"
attribute_name attribute.Spoken = codes "aria-label"
attribute_name attribute.Present = codes "aria-current"
attribute_name attribute.Scope = codes "scope"
attribute_name attribute.Columns = codes "colspan"
attribute_name attribute.Moment = codes "datetime"
attribute_name attribute.View = codes "viewBox"
attribute_name attribute.Width = codes "width"
attribute_name attribute.Height = codes "height"
attribute_name attribute.Left = codes "x"
attribute_name attribute.Top = codes "y"
attribute_name attribute.FromLeft = codes "x1"
attribute_name attribute.ToLeft = codes "x2"
attribute_name attribute.FromTop = codes "y1"
attribute_name attribute.ToTop = codes "y2"
attribute_name attribute.CenterLeft = codes "cx"
attribute_name attribute.CenterTop = codes "cy"
attribute_name attribute.Radius = codes "r"
attribute_name attribute.Data = codes "d"

-- the bytes of a piece
abbrev pub bytes_of : Piece → List ℕ
bytes_of piece.Head = HEAD.now
bytes_of (piece.Refresh seconds) = REFRESH.now ++ decimal seconds ++ codes "\">"
bytes_of piece.Style = STYLE.now
bytes_of piece.Foot = codes "</html>\n"
bytes_of (piece.Start e) = codes "<" ++ element_name e
bytes_of (piece.Value a) = codes " " ++ attribute_name a ++ codes "=\""
bytes_of piece.ValueEnd = codes "\""
bytes_of (piece.Link id) = codes " href=\"#" ++ escaped id.now ++ codes "\""
bytes_of piece.StartEnd = codes ">"
bytes_of (piece.End e) = codes "</" ++ element_name e ++ codes ">"
bytes_of (piece.Text text) = escaped text.now
bytes_of (piece.Number n) = decimal n

-- the bytes of pieces, one after another
abbrev pub written : List Piece → List ℕ
written pieces = flat_map bytes_of pieces

-- where the next piece stands, after one that stands between tags
abbrev pub between : HtmlContext → HtmlContext → Option HtmlContext
between place.Between next = Some next
between place.Tag next = None
between place.Value next = None

-- after one that stands in a start tag
abbrev pub in_tag : HtmlContext → HtmlContext → Option HtmlContext
in_tag place.Between next = None
in_tag place.Tag next = Some next
in_tag place.Value next = None

-- after one that stands in the value of an attribute
abbrev pub in_value : HtmlContext → HtmlContext → Option HtmlContext
in_value place.Between next = None
in_value place.Tag next = None
in_value place.Value next = Some next

-- after a text, which stands between tags or in a value
abbrev pub in_text : HtmlContext → Option HtmlContext
in_text place.Between = Some place.Between
in_text place.Tag = None
in_text place.Value = Some place.Value

-- where the next piece stands, if this one may stand at this place
abbrev pub place_after : HtmlContext → Piece → Option HtmlContext
place_after here piece.Head = between here place.Between
place_after here (piece.Refresh seconds) = between here place.Between
place_after here piece.Style = between here place.Between
place_after here piece.Foot = between here place.Between
place_after here (piece.Start e) = between here place.Tag
place_after here (piece.Value a) = in_tag here place.Value
place_after here piece.ValueEnd = in_value here place.Tag
place_after here (piece.Link id) = in_tag here place.Tag
place_after here piece.StartEnd = in_tag here place.Between
place_after here (piece.End e) = between here place.Between
place_after here (piece.Text text) = in_text here
place_after here (piece.Number n) = in_text here

-- the same after one piece more, if all before it may stand where they do
abbrev pub then_place : Option HtmlContext → Piece → Option HtmlContext
then_place so_far p = option_and_then (λ here. place_after here p) so_far

-- where the next piece stands after pieces that begin between tags, if each stands where it may
abbrev pub place_of : List Piece → Option HtmlContext
place_of pieces = fold then_place (Some place.Between) pieces

-- bytes are those of pieces, each of which stands where it may, and the next one stands here
abbrev pub LeadsTo : HtmlContext → List ℕ → Type 0
LeadsTo here bytes = (pieces : List Piece) × (bytes ≡ written pieces)
    × (place_of pieces ≡ Some here)

-- bytes are those of pieces and of nothing else: each stands where it may, and all start tags end
abbrev pub IsOfPieces : List ℕ → Type 0
IsOfPieces bytes = LeadsTo place.Between bytes
