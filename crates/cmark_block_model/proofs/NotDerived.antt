-- Documents that a text does not derive: no document that is written so is derived from it.
use Rattle.std.specs.Prelude.{◌≡◌, ℕ, true, false, List, codes, bytes_eq}
use Rattle.std.proofs.Common.{refl, sym, ap, ◌∙◌, true≢false}
use Rattle.cmark_grammar.specs.Leaves.{underlines}
use Rattle.cmark_grammar.specs.Containers.{enter, keeps}
use Rattle.cmark_grammar.specs.Options.{no_options}
use Rattle.cmark_grammar.specs.Openings.{opens, texts, lazily}
use Rattle.cmark_block_model.specs.BlocksModel.{begin, blocks}
use Rattle.cmark_grammar.specs.Entities.{basic_entity}
use Rattle.cmark_grammar.specs.BlockDocument.{BlockDocument}
use Rattle.cmark_grammar.specs.Derivation.{Derives}
use Rattle.cmark_block_model.specs.DocumentModel.{document}
use Rattle.cmark_block_model.proofs.BlockSamples.{written}
use Rattle.cmark_block_model.proofs.BlockDocumentOne.{document-only}

abbrev pub Refused : (text wrong : List ℕ) → Type 0
Refused text wrong = (d : BlockDocument) → Derives text no_options basic_entity d → written d ≡ wrong → ⊥

refused : (text wrong : List ℕ) → bytes_eq (written (document text no_options basic_entity)) wrong ≡ false → bytes_eq wrong wrong ≡ true → Refused text wrong
refused text wrong differs same d derived is =
    let right : written (document text no_options basic_entity) ≡ wrong = sym (ap written (document-only text no_options basic_entity d derived)) ∙ is in
    true≢false (sym same ∙ sym (ap (λ w. bytes_eq w wrong) right) ∙ differs)

-- a heading of seven `#`
pub seven_hashes : Refused (codes "####### a\n") (codes "<h6># a</h6>\n")
unfolding blocks begin opens texts lazily enter keeps underlines
seven_hashes = refused (codes "####### a\n") (codes "<h6># a</h6>\n") refl refl

-- a lazy line opens no list inside the block quote
pub lazy_list : Refused (codes "> - a\n- b\n") (codes "<blockquote>\n<ul>\n<li>a</li>\n<li>b</li>\n</ul>\n</blockquote>\n")
unfolding blocks begin opens texts lazily enter keeps underlines
lazy_list = refused (codes "> - a\n- b\n") (codes "<blockquote>\n<ul>\n<li>a</li>\n<li>b</li>\n</ul>\n</blockquote>\n") refl refl

-- a shorter fence closes nothing
pub short_closer : Refused (codes "````\na\n```\nb\n````\n") (codes "<pre><code>a\n</code></pre>\n<p>b</p>\n<pre><code></code></pre>\n")
unfolding blocks begin opens texts lazily enter keeps underlines
short_closer = refused (codes "````\na\n```\nb\n````\n") (codes "<pre><code>a\n</code></pre>\n<p>b</p>\n<pre><code></code></pre>\n") refl refl

-- neighbouring items of one character are one list
pub parted_lists : Refused (codes "- a\n\n- b\n") (codes "<ul>\n<li>a</li>\n</ul>\n<ul>\n<li>b</li>\n</ul>\n")
unfolding blocks begin opens texts lazily enter keeps underlines
parted_lists = refused (codes "- a\n\n- b\n") (codes "<ul>\n<li>a</li>\n</ul>\n<ul>\n<li>b</li>\n</ul>\n") refl refl

-- items with a blank line between them are loose
pub loose_called_tight : Refused (codes "- a\n\n- b\n") (codes "<ul>\n<li>a</li>\n<li>b</li>\n</ul>\n")
unfolding blocks begin opens texts lazily enter keeps underlines
loose_called_tight = refused (codes "- a\n\n- b\n") (codes "<ul>\n<li>a</li>\n<li>b</li>\n</ul>\n") refl refl

pub tight_called_loose : Refused (codes "- a\n- b\n") (codes "<ul>\n<li>\n<p>a</p>\n</li>\n<li>\n<p>b</p>\n</li>\n</ul>\n")
unfolding blocks begin opens texts lazily enter keeps underlines
tight_called_loose = refused (codes "- a\n- b\n") (codes "<ul>\n<li>\n<p>a</p>\n</li>\n<li>\n<p>b</p>\n</li>\n</ul>\n") refl refl

-- a title contains no blank line
pub blank_line_in_title : Refused (codes "[a]: /u \"x\n\ny\"\n") (codes "")
unfolding blocks begin opens texts lazily enter keeps underlines
blank_line_in_title = refused (codes "[a]: /u \"x\n\ny\"\n") (codes "") refl refl

-- an item numbered 2 interrupts no paragraph
pub number_interrupts : Refused (codes "a\n2. b\n") (codes "<p>a</p>\n<ol start=\"2\">\n<li>b</li>\n</ol>\n")
unfolding blocks begin opens texts lazily enter keeps underlines
number_interrupts = refused (codes "a\n2. b\n") (codes "<p>a</p>\n<ol start=\"2\">\n<li>b</li>\n</ol>\n") refl refl

-- nor does indented code
pub code_interrupts : Refused (codes "a\n    b\n") (codes "<p>a</p>\n<pre><code>b\n</code></pre>\n")
unfolding blocks begin opens texts lazily enter keeps underlines
code_interrupts = refused (codes "a\n    b\n") (codes "<p>a</p>\n<pre><code>b\n</code></pre>\n") refl refl

-- a lazy line is no underline
pub lazy_heading : Refused (codes "> a\n===\n") (codes "<blockquote>\n<h1>a</h1>\n</blockquote>\n")
unfolding blocks begin opens texts lazily enter keeps underlines
lazy_heading = refused (codes "> a\n===\n") (codes "<blockquote>\n<h1>a</h1>\n</blockquote>\n") refl refl

-- blank lines at the end belong to no indented code
pub trailing_blank_in_code : Refused (codes "    a\n\nb\n") (codes "<pre><code>a\n</code></pre>\n<pre><code></code></pre>\n<p>b</p>\n")
unfolding blocks begin opens texts lazily enter keeps underlines
trailing_blank_in_code = refused (codes "    a\n\nb\n") (codes "<pre><code>a\n</code></pre>\n<pre><code></code></pre>\n<p>b</p>\n") refl refl

-- a blank line separates two block quotes
pub quote_over_blank : Refused (codes "> a\n\n> b\n") (codes "<blockquote>\n<p>a</p>\n<p>b</p>\n</blockquote>\n")
unfolding blocks begin opens texts lazily enter keeps underlines
quote_over_blank = refused (codes "> a\n\n> b\n") (codes "<blockquote>\n<p>a</p>\n<p>b</p>\n</blockquote>\n") refl refl
