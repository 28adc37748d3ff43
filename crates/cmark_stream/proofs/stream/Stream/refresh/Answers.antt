use Rattle.cmark_stream.proofs.StreamSteps.{refresh-good, refresh-keeps, refresh-plain, refresh-read, refresh-refused, refresh-safe, refresh-shows, refresh-tells}
use Rattle.cmark_stream.proofs.stream.Stream.refresh.Goals as goal

pub returns-clause-html : goal.returns-clause-html
returns-clause-html g c = refresh-shows g.E.EntityLookup.replacement c.args.self.now c.read_on.new.self c.read_on.result c.read_on.ensures

pub returns-clause-plain : goal.returns-clause-plain
returns-clause-plain g c = refresh-plain g.E.EntityLookup.replacement c.args.self.now c.read_on.new.self c.read_on.result c.read_on.ensures

pub returns-clause-safe : goal.returns-clause-safe
returns-clause-safe g c = refresh-safe g.E.EntityLookup.replacement c.args.self.now c.read_on.new.self c.read_on.result c.read_on.ensures

pub returns-clause-grown : goal.returns-clause-grown
returns-clause-grown g c = refresh-tells g.E.EntityLookup.replacement c.args.self.now c.read_on.new.self c.read_on.result c.read_on.ensures

pub returns-clause-text : goal.returns-clause-text
returns-clause-text g c = refresh-keeps g.E.EntityLookup.replacement c.args.self.now c.read_on.new.self c.read_on.result c.read_on.ensures

pub returns-clause-refused : goal.returns-clause-refused
returns-clause-refused g c = refresh-refused g.E.EntityLookup.replacement c.args.self.now c.read_on.new.self c.read_on.result c.read_on.ensures

pub returns-clause-read : goal.returns-clause-read
returns-clause-read g c = refresh-read g.E.EntityLookup.replacement c.args.self.now c.read_on.new.self c.read_on.result c.read_on.ensures

pub returns-clause-good : goal.returns-clause-good
returns-clause-good g c = refresh-good g.E.EntityLookup.replacement c.args.self.now c.read_on.new.self c.read_on.result c.read_on.ensures
