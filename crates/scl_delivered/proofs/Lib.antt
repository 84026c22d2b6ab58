pub mod ToldLaws
mod DeliveredLaws
mod FactLaws
mod HitLaws
mod DirectLaws
mod DirectoryLaws
