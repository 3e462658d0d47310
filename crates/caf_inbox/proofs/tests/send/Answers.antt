use Rattle.caf_inbox.proofs.tests.send.Goals as goal

pub push-requires-clause-fits : goal.push-requires-clause-fits
push-requires-clause-fits g c = c.notice.ensures.fits _
