use Rattle.cmark_stream_model.proofs.TailFacts.{tail-segments, tail-references, tail-footnotes}
use Rattle.cmark_stream_model.proofs.laws.joined_documents_are_read_in_parts.Goals as goal

pub returns-clause-segments : goal.returns-clause-segments
returns-clause-segments c = tail-segments

pub returns-clause-definitions : goal.returns-clause-definitions
returns-clause-definitions c = tail-references

pub returns-clause-footnotes : goal.returns-clause-footnotes
returns-clause-footnotes c = tail-footnotes
