-- Replies of the code.
use Rattle.std.specs.Prelude.{List, Option, option_map}
use Rattle.cmark_grammar.specs.Answers.{Destination}
use Rattle.cmark_flat.specs.Decode.{first_by}
use Rattle.cmark_flat.specs.Questions.{Reply, reply_of}
use Rattle.cmark_flat.specs.Records.{FlatRecord}
use Rattle.cmark_flat.specs.declared.replies.Answer.{Answer}
use Rattle.cmark_flat.specs.declared.replies.Reply.{Reply as Given}

abbrev pub shown_destination : Answer → Destination
shown_destination a = record { url = a.dest_url.now; title = a.title.now }

abbrev pub shown_answer : Option Answer → Option Destination
shown_answer answer = option_map shown_destination answer

abbrev pub shown_reply : Given → Reply
shown_reply r = record { start = r.start; end = r.end; answer = shown_answer r.answer }

-- the reply of the first group
abbrev pub reply_at : List FlatRecord → Option Reply
reply_at rs = first_by reply_of rs
