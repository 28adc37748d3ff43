-- Examples of email addresses, and of the autolinks that they make (CommonMark 6.5), computed.
use Rattle.std.specs.Prelude.{◌≡◌, ℕ, zero, suc, true, false, List, [], ◌∷◌, ◌++◌, codes, if◌then◌else◌, replicate, None}
use Rattle.std.specs.Str.{chars}
use Rattle.std.proofs.Common.{refl}
use lib.Utf8.{encode}
use Rattle.ucd_category.proofs.Computing.{ucd_category}
use Rattle.cmark_grammar.specs.Autolinks.{autolink_in, is_email, is_local_byte}
use Rattle.cmark_grammar.specs.Flanking.{is_unicode_white_space, is_unicode_punctuation}
use Rattle.cmark_grammar.specs.InlineTokens.{token}
use Rattle.cmark_grammar.specs.Items.{Own, Autolink}
use Rattle.cmark_grammar.specs.LinkType as link
use Rattle.cmark_grammar.specs.Options.{Options, no_options}
use Rattle.cmark_grammar.specs.Siblings.{address_type}
use Rattle.cmark_grammar.proofs.InlineSamples.{reading, whole, stands}

abbrev emails : Options
emails = record no_options { email_autolinks = true }

-- ## Addresses

plain_address : is_email (codes "foo@bar.example.com") ≡ true
plain_address = refl

marks_in_the_local_part : is_email (codes "foo+special@Bar.baz-bar0.com") ≡ true
marks_in_the_local_part = refl

one_label : is_email (codes "a@b") ≡ true
one_label = refl

escape_inside : is_email (codes "foo\\+@bar.example.com") ≡ false
escape_inside = refl

blank_inside : is_email (codes "a @b") ≡ false
blank_inside = refl

no_local_part : is_email (codes "@b") ≡ false
no_local_part = refl

no_domain : is_email (codes "a@") ≡ false
no_domain = refl

empty_label : is_email (codes "a@b..c") ≡ false
empty_label = refl

empty_last_label : is_email (codes "a@b.") ≡ false
empty_last_label = refl

label_begins_with_a_hyphen : is_email (codes "a@b.-c") ≡ false
label_begins_with_a_hyphen = refl

label_ends_with_a_hyphen : is_email (codes "a@b-.c") ≡ false
label_ends_with_a_hyphen = refl

hyphen_inside_a_label : is_email (codes "a@b-c") ≡ true
hyphen_inside_a_label = refl

longest_label : is_email (codes "a@" ++ replicate 63 98) ≡ true
longest_label = refl

label_of_64 : is_email (codes "a@" ++ replicate 64 98) ≡ false
label_of_64 = refl

two_at_signs : is_email (codes "a@b@c") ≡ false
two_at_signs = refl

-- the bytes below a number that a local part may contain, the greatest first
abbrev local_below : ℕ → List ℕ
local_below zero = []
local_below (suc n) = if is_local_byte n then n ∷ local_below n else local_below n

local_bytes : local_below 256 ≡ codes "~}|{zyxwvutsrqponmlkjihgfedcba`_^ZYXWVUTSRQPONMLKJIHGFEDCBA?=9876543210/.-+*'&%$#!"
local_bytes = refl

-- ## Autolinks

autolink_by_email : token (reading emails (codes "<a@b.c>d")) (whole (codes "<a@b.c>d")) 0 ≡ stands (Autolink (codes "a@b.c")) 0 7 7
unfolding encode chars token ucd_category is_unicode_white_space is_unicode_punctuation
autolink_by_email = refl

no_emails : token (reading no_options (codes "<a@b.c>d")) (whole (codes "<a@b.c>d")) 0 ≡ stands Own 0 1 1
unfolding encode chars token ucd_category is_unicode_white_space is_unicode_punctuation
no_emails = refl

-- an email address comes before a declaration
email_first : token (reading emails (codes "<!a@b>")) (whole (codes "<!a@b>")) 0 ≡ stands (Autolink (codes "!a@b")) 0 6 6
unfolding encode chars token ucd_category is_unicode_white_space is_unicode_punctuation
email_first = refl

not_closed : autolink_in true (codes "a@b.c d>") ≡ None
not_closed = refl

email_type : address_type (codes "a@b.c") ≡ link.Email
email_type = refl

uri_type : address_type (codes "mailto:a@b.c") ≡ link.Autolink
uri_type = refl
