use Rattle.searcher_table.proofs.registrar.Registrar.publish.Given as goal

-- the list of the own door
abbrev pub ghosts-supersede : goal.ghosts-supersede
ghosts-supersede g a = record { list = g.D.Shown.list a._own.now }

abbrev pub ghosts-register : goal.ghosts-register
ghosts-register g a = record { list = g.D.Shown.list a._own.now }
