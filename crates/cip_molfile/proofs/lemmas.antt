pub mod FitDrawings
